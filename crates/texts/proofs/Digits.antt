-- Numbers read digit by digit. Assumes nothing.
use Rattle.std.proofs.Common.{◌≡◌, ℕ, zero, suc, ◌+◌, ◌-◌, ◌*◌, ◌<◌, true, false, ◌&&◌, ltb, List, [], ◌∷◌, ◌++◌, length, get_or, take, None, sym, refl, arith}
use Rattle.std.proofs.lemmas.Bool.Decides.{nat_tests}
use Rattle.std.proofs.lemmas.List.{take_more}
use Rattle.std.proofs.lemmas.Bool.{and_left, and_right, cond-false}
use Rattle.texts.specs.Number.{digit, all_digits, read_on, number_in}

read_on_push : (v : ℕ) (ds : List ℕ) (d : ℕ) → read_on v (ds ++ (d ∷ [])) ≡ read_on v ds * 10 + (d - 48)
read_on_push v [] d = refl
read_on_push v (x ∷ ds) d = read_on_push (v * 10 + (x - 48)) ds d

all_digits_push : (ds : List ℕ) (d : ℕ) → digit d ≡ true → all_digits ds ≡ true → all_digits (ds ++ (d ∷ [])) ≡ true
all_digits_push [] d h k = grind (arith, nat_tests)
all_digits_push (x ∷ ds) d h k = let t : all_digits ds ≡ true = grind arith in let u = all_digits_push ds d h t in grind arith

-- one more digit is read
pub all_digits_more : (ds : List ℕ) (i : ℕ) → i < length ds → digit (get_or ds i 0) ≡ true → all_digits (take i ds) ≡ true → all_digits (take (i + 1) ds) ≡ true
all_digits_more ds i h d k = rw (take_more ds i 0 h) (all_digits_push (take i ds) (get_or ds i 0) d k)

pub read_on_more : (ds : List ℕ) (i : ℕ) → i < length ds → read_on 0 (take (i + 1) ds) ≡ read_on 0 (take i ds) * 10 + (get_or ds i 0 - 48)
read_on_more ds i h = rw (take_more ds i 0 h) (read_on_push 0 (take i ds) (get_or ds i 0))

-- one that is no digit spoils the word
pub all_digits_broken : (ds : List ℕ) (i : ℕ) → i < length ds → digit (get_or ds i 0) ≡ false → all_digits ds ≡ false
all_digits_broken [] i h b = absurd (omega arith)
all_digits_broken (d ∷ ds) zero h b = and_left (digit d) (all_digits ds) b
all_digits_broken (d ∷ ds) (suc i) h b = and_right (digit d) (all_digits ds) (all_digits_broken ds i (omega arith) b)

pub number_none : (ds : List ℕ) → all_digits ds ≡ false → None ≡ number_in ds
number_none ds h = sym (cond-false (ltb 0 (length ds) && all_digits ds) _ _ (and_right (ltb 0 (length ds)) (all_digits ds) h))
