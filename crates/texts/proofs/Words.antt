-- The first word of a line, and what follows it. Assumes nothing.
use Rattle.std.proofs.Common.{◌≡◌, ℕ, suc, ◌+◌, ◌<◌, ◌≤◌, Bool, true, not, List, [], ◌∷◌, length, take, drop, Some, None, refl, sym, inl, inr, arith}
use Rattle.std.proofs.lemmas.Bool.{cases_Bool}
use Rattle.std.proofs.lemmas.Grind.{common_steps}
use Rattle.std.proofs.lemmas.List.Quantifiers.{position-Some}
use Rattle.std.proofs.lemmas.List.Sums.{prefix_len-le-length}
use Rattle.std.proofs.lemmas.Bool.Decides.{nat_tests}
use Rattle.std.specs.List.{slice_split, position_or_len, position, filter}
use Rattle.std.specs.Option.{unwrap_or}
use Rattle.texts.specs.Lines.{blank, has_bytes, words_of}

-- the bytes that stand in words
abbrev pub solid : ℕ → Bool
solid b = not (blank b)

-- the pieces after the first
abbrev after : (ℕ → Bool) → List ℕ → List (List ℕ)
after test [] = []
after test (b ∷ bs) = slice_split test bs

-- the first piece ends before the first byte that passes the test
cut_first : (test : ℕ → Bool) (bs : List ℕ) → slice_split test bs ≡ take (position_or_len test bs) bs ∷ after test (drop (position_or_len test bs) bs)
cut_first test [] = refl
cut_first test (b ∷ bs) =
    let s : 1 + position_or_len test bs ≡ suc (position_or_len test bs) = omega arith in
    elim (cases_Bool (test b)) [ inl t ↦ rw t refl | inr f ↦ let e = cut_first test bs in rw (f, s, e) refl ]

-- what follows a word holds the same words with the blank at its start and without it
words_after : (bs : List ℕ) → filter has_bytes (after blank (drop (position_or_len blank bs) bs)) ≡ words_of (drop (position_or_len blank bs) bs)
words_after [] = refl
words_after (b ∷ bs) =
    let s : 1 + position_or_len blank bs ≡ suc (position_or_len blank bs) = omega arith in
    elim (cases_Bool (blank b)) [ inl t ↦ rw (t, t) refl | inr f ↦ rw (f, s) (words_after bs) ]

-- a line of blanks has no word
pub no_words : (bs : List ℕ) → length bs ≤ position_or_len solid bs → words_of bs ≡ []
no_words [] l = refl
no_words (b ∷ bs) l = elim (cases_Bool (blank b)) [ inl t ↦ rw t (no_words bs (omega (arith, rw t at l))) | inr f ↦ absurd (omega (arith, rw f at l)) ]

-- the first word of the rest of a line, and what follows it
abbrev FirstWord : List ℕ → List ℕ → Type 0
FirstWord bs rest = words_of bs ≡ take (position_or_len blank rest) rest ∷ words_of (drop (position_or_len blank rest) rest)

-- any other begins with one after its blanks, which ends before the next blank
pub words_first : (bs : List ℕ) → position_or_len solid bs < length bs → FirstWord bs (drop (position_or_len solid bs) bs)
words_first [] l = absurd (omega arith)
words_first (b ∷ bs) l =
    let s : 1 + position_or_len solid bs ≡ suc (position_or_len solid bs) = omega arith in
    let z : 1 + position_or_len blank bs ≡ suc (position_or_len blank bs) = omega arith in
    let some : has_bytes (b ∷ take (position_or_len blank bs) bs) ≡ true = grind (arith, nat_tests) in
    elim (cases_Bool (blank b)) [
      | inl t ↦ rw (t, s) (words_first bs (omega (arith, rw t at l)))
      | inr f ↦ rw (f, z, cut_first blank bs, words_after bs, some, f) refl
    ]

-- what a search for a byte tells
pub none_found : (test : ℕ → Bool) (bs : List ℕ) → None ≡ position test bs → length bs ≤ position_or_len test bs
none_found test bs none = grind (arith, common_steps)

pub found : (test : ℕ → Bool) (bs : List ℕ) (i : ℕ) → Some i ≡ position test bs → (i ≡ position_or_len test bs) × (i < length bs)
found test bs i some = let e : position_or_len test bs ≡ i = grind (arith, common_steps) in (sym e, (position-Some test bs i 0 (sym some)).0)

pub found_or_end : (test : ℕ → Bool) (bs : List ℕ) → unwrap_or (position test bs) (length bs) ≡ position_or_len test bs
found_or_end test bs = let within = prefix_len-le-length (λ b. not (test b)) bs in grind (arith, common_steps)
