-- Sets of huts as bits of words: one hut more, the join of two sets, what two have both, the lowest hut that words tell, and the list of a set's huts. Assumes nothing.
use Rattle.std.proofs.Common.{◌≡◌, ℕ, zero, suc, ◌+◌, ◌-◌, ◌*◌, ◌/◌, ◌%◌, ◌^◌, ◌<◌, ◌≤◌, Bool, true, false, ◌&&◌, ◌||◌, eqb, ltb, List, [], ◌∷◌, length, get_or, set, replicate, refl, ◌∙◌, inl, inr, Option, None, Some, MatchOption, not, w64, arith}
use Rattle.std.specs.Option.{is_some, unwrap_or}
use Rattle.std.specs.Bool.{then_some}
use native.Mathlib.Nat.{div-eq_of_lt, div-le_self}
use lib.Bits.{bit_and, bit_or}
use lib.Count.{count_trailing_zeros, under}
use Rattle.std.proofs.lemmas.Nat.{pow_pos, and_le_l, shr-shr, shr_below}
use Rattle.std.proofs.lemmas.List.{get_or-set_same, get_or-set_other, get_or_past, get_or-replicate, length-replicate}
use Rattle.std.proofs.lemmas.Bool.{cases_eq, cases_lt, and_parts}
use Rattle.std.proofs.lemmas.Bool.Decides.{nat_tests as tells}
use Rattle.sets.specs.Set.{has, in_set, Lowest, LowestMissing, Common, Meets, Next, NextHut, huts_from}
use Rattle.std.specs.List.{filter, range_with_len}
use Rattle.sets.specs.Word.{bit, Tells, LowestTold}
use Rattle.std.proofs.lemmas.Nat.Bits.{bit_at_not, bit_at_or, bit_at_and, bit_at-lt, bit_at-zero, bit_at-pow_same, bit_at-pow_other, bit_at-trailing_zeros, bit_at_above}
use Rattle.std.specs.Int.{bit_not, bit_at}
use Rattle.std.specs.Array.{IsFromFnResultFrom}
use Rattle.std.specs.Fn.{Called}
use denote.Param.Members.{Mut}
use Rattle.sets.specs.declared.HutSet.{HutSet}

-- P gives a word i that is not 0
abbrev pub Marked : (ℕ → ℕ → Type 0) → ℕ → Type 0
Marked P i = (w : ℕ) × P i w × (w ≡ 0 → ⊥)

-- or one that is 0
abbrev pub Clear : (ℕ → ℕ → Type 0) → ℕ → Type 0
Clear P i = (w : ℕ) × P i w × (w ≡ 0)

-- a bit of two words that are joined by or
pub bit_of_or : (a b j : ℕ) → bit (bit_or a b) j ≡ (bit a j || bit b j)
bit_of_or a b j = grind (arith, tells, bit_at_or a b j, bit_at-lt a j, bit_at-lt b j)

-- a bit of two words that are joined by and
pub bit_of_and : (a b j : ℕ) → bit (bit_and a b) j ≡ (bit a j && bit b j)
bit_of_and a b j = grind (arith, tells, bit_at_and a b j, bit_at-lt a j, bit_at-lt b j)

-- the word with bit h alone
pub bit_one : (h j : ℕ) → bit (2 ^ h) j ≡ eqb h j
bit_one h j =
    elim (cases_eq j h) [
      | inl same ↦ let e : bit_at (2 ^ j) j ≡ 1 = bit_at-pow_same j in rw (← same) (grind (arith, tells))
      | inr apart ↦ let e : bit_at (2 ^ h) j ≡ 0 = bit_at-pow_other h j apart in grind (arith, tells)
    ]

-- hut h's bit is put in
pub has_insert : (ws : List ℕ) (h : ℕ) → h / 64 < length ws → (k : ℕ) → has (set ws (h / 64) (bit_or (get_or ws (h / 64) 0) (2 ^ (h % 64)))) k ≡ (eqb h k || has ws k)
unfolding has
has_insert ws h l k =
    let w : ℕ = bit_or (get_or ws (h / 64) 0) (2 ^ (h % 64)) in
    elim (cases_eq (k / 64) (h / 64)) [
      | inl same ↦
          let e : get_or (set ws (h / 64) w) (k / 64) 0 ≡ bit_or (get_or ws (k / 64) 0) (2 ^ (h % 64)) = rw same (get_or-set_same ws (h / 64) w 0 l) in
          let b = bit_of_or (get_or ws (k / 64) 0) (2 ^ (h % 64)) (k % 64) in
          let o = bit_one (h % 64) (k % 64) in
          rw e (grind (arith, tells))
      | inr apart ↦ rw (get_or-set_other ws (h / 64) (k / 64) w 0 apart) (grind (arith, tells))
    ]

-- a list that calls of a closure gave one by one, if it stays as it is
pub given_at :
    {F : Type 0} {g : Mut F (ℕ × Unit {0}) ℕ} (f : F) (ys : List ℕ) (i n : ℕ) (h : ℕ → ℕ) → IsFromFnResultFrom g f ys i n →
    ((j y : ℕ) (q : F) → Called g f (j, tt) y q → (q ≡ f) × (y ≡ h j)) → (k : ℕ) → i ≤ k → k < i + n → get_or ys k 0 ≡ h k
given_at f ys i zero h each told k since l = absurd (omega arith)
given_at f ys i (suc n) h (q, y, at, call, on) told k since l =
    let t = told i y q call in
    elim (cases_eq i k) [
      | inl same ↦ rw (← same) (at.1 0 ∙ t.1)
      | inr apart ↦ given_at f ys (i + 1) n h (rw t.0 at on) told k (omega arith) (omega arith)
    ]

-- a hut that is in a set is there
pub in_below : (s : HutSet) (k : ℕ) → in_set s k ≡ true → k < 1024
unfolding in_set
in_below s k e = grind (arith, tells)

-- one more hut
pub in_insert : (s t : HutSet) (h : ℕ) → h < 1024 → ((k : ℕ) → has t.words k ≡ (eqb h k || has s.words k)) → (k : ℕ) → in_set t k ≡ ((eqb h k && ltb k 1024) || in_set s k)
unfolding in_set
in_insert s t h l bits k = let b = bits k in grind (arith, tells)

-- the lowest set bit of a word below 2 ^ n that is not 0
pub lowest-bit :
    (n w : ℕ) → (w ≡ 0 → ⊥) → w < 2 ^ n → w < 2 ^ 64 →
    (count_trailing_zeros 64 w < n) × (bit_at w (count_trailing_zeros 64 w) ≡ 1) × ((j : ℕ) → j < count_trailing_zeros 64 w → bit_at w j ≡ 0)
lowest-bit n w some h fits =
    let t : ℕ = count_trailing_zeros 64 w in
    let low = bit_at-trailing_zeros w64 w (omega arith) fits in
    let less : t < n = elim (cases_lt t n) [ inl l' ↦ l' | inr more ↦ let z = bit_at_above w n t h more in absurd (omega (arith, low.1)) ] in
    (less, low.1, low.2)

-- from 1,024 on no hut is in a set
pub past_all : (s : HutSet) (k : ℕ) → 1024 ≤ k → in_set s k ≡ false
unfolding in_set
past_all s k l = grind (arith, tells)

-- a hut is in the set exactly if its word has its bit
pub in_word : (s : HutSet) (k w : ℕ) → k < 1024 → w ≡ get_or s.words (k / 64) 0 → in_set s k ≡ bit w (k % 64)
unfolding in_set has
in_word s k w l e = rw e (grind (arith, tells))

-- zeros have no bit
pub has_none : (n k : ℕ) → has (replicate n 0) k ≡ false
unfolding has
has_none n k =
    let none = bit_at-zero (k % 64) in
    elim (cases_lt (k / 64) n) [
      | inl less ↦ rw (get_or-replicate {A = ℕ} n (k / 64) 0 0 less) (grind (arith, tells, none))
      | inr past ↦ rw (get_or_past {X = ℕ} (replicate n 0) (k / 64) 0 (rw length-replicate past)) (grind (arith, tells, none))
    ]

-- where there is no bit, no hut is in the set
pub in_none : (s : HutSet) → ((k : ℕ) → has s.words k ≡ false) → (k : ℕ) → in_set s k ≡ false
unfolding in_set
in_none s none k = let e = none k in grind (arith, tells)

-- the bits that word i of two sets have both
abbrev pub both : HutSet → HutSet → ℕ → ℕ
both s t i = bit_and (get_or s.words i 0) (get_or t.words i 0)

-- and in both sets exactly if both words have it
pub in_both : (s t : HutSet) (k w : ℕ) → k < 1024 → w ≡ both s t (k / 64) → (in_set s k && in_set t k) ≡ bit w (k % 64)
in_both s t k w l e = rw (in_word s k _ l refl, in_word t k _ l refl, e, bit_of_and) refl

-- the huts of both; from 1,024 on no bit counts
pub in_union : (s t u : HutSet) → ((k : ℕ) → k < 1024 → has u.words k ≡ (has s.words k || has t.words k)) → (k : ℕ) → in_set u k ≡ (in_set s k || in_set t k)
unfolding in_set
in_union s t u bits k =
    elim (cases_lt k 1024) [ inl less ↦ let b = bits k less in grind (arith, tells) | inr more ↦ grind (arith, tells) ]

-- and in one or the other exactly if one of the words has it
pub in_or :
    (s t u : HutSet) → ((i : ℕ) → 0 ≤ i → i < 16 → get_or u.words i 0 ≡ bit_or (get_or s.words i 0) (get_or t.words i 0)) →
    (k : ℕ) → in_set u k ≡ (in_set s k || in_set t k)
unfolding has
in_or s t u words = in_union s t u (λ k l. rw (words (k / 64) (omega arith) (omega arith), bit_of_or) refl)

-- and is not in it exactly if the word with all bits turned has it
pub out_of_word : (s : HutSet) (k w : ℕ) → k < 1024 → get_or s.words (k / 64) 0 < 2 ^ 64 → w ≡ 18446744073709551615 - get_or s.words (k / 64) 0 → not (in_set s k) ≡ bit w (k % 64)
out_of_word s k w l fits e =
    let b : bit_at (bit_not w64 (get_or s.words (k / 64) 0)) (k % 64) ≡ 1 - bit_at (get_or s.words (k / 64) 0) (k % 64) = bit_at_not w64 (get_or s.words (k / 64) 0) (k % 64) fits (omega arith) in
    rw (in_word s k _ l refl, e) (grind (arith, tells, b))

-- where nothing is left of the word of hut f, no hut of the word from f on has a bit
pub clear_left : (P : ℕ → ℕ → Type 0) (f w : ℕ) → P (f / 64) w → w / 2 ^ (f % 64) ≡ 0 → (k : ℕ) → f ≤ k → k / 64 ≡ f / 64 → Tells P k false
clear_left P f w given none k since same =
    let d : f % 64 + (k - f) ≡ k % 64 = omega arith in
    let e : w / 2 ^ (f % 64) / 2 ^ (k - f) ≡ w / 2 ^ (k % 64) = rw d at (shr-shr w (f % 64) (k - f)) in
    let z : 0 / 2 ^ (k - f) ≡ 0 = div-eq_of_lt (pow_pos (k - f)) in
    let v : w / 2 ^ (k % 64) ≡ 0 = cc in
    (w, rw same given, rw v refl)

-- and none of a word that is 0
pub clear_word : (P : ℕ → ℕ → Type 0) (k : ℕ) → Clear P (k / 64) → Tells P k false
clear_word P k (w, given, none) = (w, given, rw (none, div-eq_of_lt (pow_pos (k % 64))) refl)

pub clear_words :
    (P : ℕ → ℕ → Type 0) (f w i : ℕ) → P (f / 64) w → w / 2 ^ (f % 64) ≡ 0 → ((k : ℕ) → f / 64 + 1 ≤ k → k < i → Clear P k) →
    (k : ℕ) → f ≤ k → k < 64 * i → Tells P k false
clear_words P f w i given none later k since before =
    elim (cases_eq (k / 64) (f / 64)) [
      | inl same ↦ clear_left P f w given none k since same
      | inr apart ↦ clear_word P k (later (k / 64) (omega arith) (omega arith))
    ]

-- what is left of a hut's word has its lowest bit at the lowest hut
pub lowest_left :
    (P : ℕ → ℕ → Type 0) (f w : ℕ) → f < 1024 → P (f / 64) w → w < 2 ^ 64 → (w / 2 ^ (f % 64) ≡ 0 → ⊥) →
    LowestTold P f (Some (f + count_trailing_zeros 64 (w / 2 ^ (f % 64))))
lowest_left P f w l given fits some =
    let j : ℕ = f % 64 in
    let d : (64 - j) + j ≡ 64 = omega arith in
    let left = shr_below w (64 - j) j (rw d fits) in
    let t : ℕ = count_trailing_zeros 64 (w / 2 ^ j) in
    let low = lowest-bit (64 - j) (w / 2 ^ j) some left (omega (arith, div-le_self w (2 ^ j))) in
    let h : t < 64 - j = low.0 in
    let at = λ (k : ℕ) (since : f ≤ k) (before : k ≤ f + t).
    let place : j + (k - f) ≡ k % 64 = omega arith in
    let e : w / 2 ^ j / 2 ^ (k - f) ≡ w / 2 ^ (k % 64) = rw place at (shr-shr w j (k - f)) in
    e in
    let past : (f + t) - f ≡ t = omega arith in
    let same : (f + t) / 64 ≡ f / 64 = omega arith in
    let is : bit_at w ((f + t) % 64) ≡ 1 = rw (← at (f + t) (omega arith) (omega arith), past) low.1 in
    record {
      lowest = (
        omega arith,
        omega arith,
        (w, rw same given, rw is refl),
        λ k since before.
            let same' : k / 64 ≡ f / 64 = omega arith in
            let none : bit_at w (k % 64) ≡ 0 = rw (← at k since (omega arith)) (low.2 (k - f) (omega arith)) in
            (w, rw same' given, rw none refl),
      );
    }

-- and where nothing is left, of the first later word that is not 0
pub lowest_later :
    (P : ℕ → ℕ → Type 0) (f w i v : ℕ) → P (f / 64) w → w / 2 ^ (f % 64) ≡ 0 → (f / 64 + 1 ≤ i) × (i < 16) × Marked P i × ((k : ℕ) → f / 64 + 1 ≤ k → k < i → Clear P k) →
    ((j u u' : ℕ) → j < 16 → P j u → P j u' → u ≡ u') → P i v → v < 2 ^ 64 → LowestTold P f (Some (64 * i + count_trailing_zeros 64 v))
lowest_later P f w i v given none (after, l, marked, later) steady found fits =
    let some : v ≡ 0 → ⊥ = λ e. marked.2 (steady i marked.0 v l marked.1 found ∙ e) in
    let t : ℕ = count_trailing_zeros 64 v in
    let q : 64 * i / 64 ≡ i = omega arith in
    let z : 64 * i % 64 ≡ 0 = omega arith in
    let o : v / 2 ^ 0 ≡ v = omega arith in
    let low : LowestTold P (64 * i) (Some (64 * i + t)) = rw (z, o) at (lowest_left P (64 * i) v (omega arith) (rw q found) fits (rw (z, o) some)) in
    let (since, within, is, before) = low.lowest in
    record { lowest = (omega arith, within, is, λ k from less. elim (cases_lt k (64 * i)) [ inl under ↦ clear_words P f w i given none later k from under | inr more ↦ before k more less ]) }

-- the lowest hut from f on of which q is true, if there is one below 1,024
abbrev pub LowestOf : (ℕ → Bool) → ℕ → Option ℕ → Type 0
LowestOf q f r =
    MatchOption r
    ((k : ℕ) → f ≤ k → k < 1024 → q k ≡ false)
    (λ h. (f ≤ h) × (h < 1024) × (q h ≡ true) × ((k : ℕ) → f ≤ k → k < h → q k ≡ false))

-- where the words tell it
pub lowest_of : (q : ℕ → Bool) (P : ℕ → ℕ → Type 0) (f : ℕ) (r : Option ℕ) → LowestTold P f r → ((k w : ℕ) → k < 1024 → P (k / 64) w → q k ≡ bit w (k % 64)) → LowestOf q f r
lowest_of q P f None told tells = λ k since l. let t = told.lowest k since l in tells k t.0 l t.1 ∙ t.2
lowest_of q P f (Some h) told tells =
    let (since, l, is, before) = told.lowest in
    (since, l, tells h is.0 l is.1 ∙ is.2, λ k after less. let t = before k after less in tells k t.0 (omega arith) t.1 ∙ t.2)

pub next_hut : (s : HutSet) (f : ℕ) (r : Option ℕ) → LowestOf (in_set s) f r → NextHut s f r
next_hut s f None none = record { within = omega arith; is = λ l. absurd (omega arith); none_between = λ k since l. none k since l }
next_hut s f (Some h) (since, l, is, before) = (l, record { within = omega arith; is = λ _. (since, is); none_between = before })

pub meets-from : (s t : HutSet) (f : ℕ) (r : Option ℕ) → LowestOf (λ k. in_set s k && in_set t k) f r → Meets s t f (is_some r)
meets-from s t f None none = λ k since. elim (cases_lt k 1024) [ inl less ↦ none k since less | inr more ↦ let p = past_all s k more in grind (arith, tells) ]
meets-from s t f (Some h) (since, l, is, before) = let z = and_parts (in_set s h) (in_set t h) is in record { hut = h; since = since; one = z.0; other = z.1 }

-- where what two sets have both of a word is not 0 from some place on, a hut from there on is in both
pub word_common : (s t : HutSet) (f i j : ℕ) → i < 16 → j < 64 → f ≤ 64 * i + j → get_or s.words i 0 < 2 ^ 64 → (both s t i / 2 ^ j ≡ 0 → ⊥) → Common s t f
word_common s t f i j l lj since fits some =
    let g : ℕ = 64 * i + j in
    let word : g / 64 ≡ i = omega arith in
    let place : g % 64 ≡ j = omega arith in
    let P = λ (h w : ℕ). w ≡ both s t h in
    let r : Option ℕ = Some (g + count_trailing_zeros 64 (both s t i / 2 ^ (g % 64))) in
    let low : LowestTold P g r = lowest_left P g (both s t i) (omega arith) (rw word refl) (omega (arith, and_le_l (get_or s.words i 0) (get_or t.words i 0))) (rw place some) in
    let c : Common s t g = meets-from s t g r (lowest_of (λ k. in_set s k && in_set t k) P g r low (in_both s t)) in
    record { hut = c.hut; since = omega (arith, c.since); one = c.one; other = c.other }

-- and so where it is not 0 at all
pub whole_common : (s t : HutSet) (f i : ℕ) → i < 16 → f ≤ 64 * i → get_or s.words i 0 < 2 ^ 64 → (both s t i ≡ 0 → ⊥) → Common s t f
whole_common s t f i l since fits some = word_common s t f i 0 l (omega arith) (omega arith) fits (λ e. some (omega arith))

-- the lowest hut that is not in the set, or 1,024
pub lowest_lack : (s : HutSet) (r : Option ℕ) → LowestOf (λ k. not (in_set s k)) 0 r → Lowest 1024 s (unwrap_or r 1024)
lowest_lack s None none = record { within = omega arith; before = λ k l. let e = none k (omega arith) l in grind (arith, tells); lacks = λ l. absurd (omega arith) }
lowest_lack s (Some h) (since, l, is, before) =
    record { within = omega arith; before = λ k less. let e = before k (omega arith) less in grind (arith, tells); lacks = λ _. grind (arith, tells) }

pub lowest_below : (s : HutSet) (n r : ℕ) → Lowest 1024 s r → (b : Bool) → b ≡ ltb r n → LowestMissing n s (then_some b r)
lowest_below s n r low true e =
    let l : r < n = grind (arith, tells) in
    (l, record { within = omega arith; before = low.before; lacks = λ _. elim (cases_lt r 1024) [ inl less ↦ low.lacks less | inr more ↦ past_all s r more ] })
lowest_below s n r low false e =
    let l : n ≤ r = grind (arith, tells) in
    record { within = omega arith; before = λ k less. low.before k (omega arith); lacks = λ l. absurd (omega arith) }

-- of the numbers from f on, what the test passes over falls away
pub filter_none : (q : ℕ → Bool) (f n : ℕ) → ((k : ℕ) → f ≤ k → k < f + n → q k ≡ false) → filter q (range_with_len f n) ≡ []
filter_none q f zero none = refl
filter_none q f (suc n) none = rw (none f (omega arith) (omega arith)) (filter_none q (f + 1) n (λ k since l. none k (omega arith) (omega arith)))

pub filter_next :
    (q : ℕ → Bool) (f n h : ℕ) → f ≤ h → h < f + n → ((k : ℕ) → f ≤ k → k < h → q k ≡ false) → q h ≡ true →
    filter q (range_with_len f n) ≡ h ∷ filter q (range_with_len (h + 1) (f + n - (h + 1)))
filter_next q f zero h since l before is = absurd (omega arith)
filter_next q f (suc n) h since l before is =
    elim (cases_eq f h) [
      | inl same ↦
          let e : f + suc n - (h + 1) ≡ n = omega arith in
          rw (e, same, is) refl
      | inr apart ↦
          let e : f + 1 + n ≡ f + suc n = omega arith in
          let on = filter_next q (f + 1) n h (omega arith) (omega arith) (λ k after. before k (omega arith)) is in
          rw (before f (omega arith) (omega arith)) (rw e at on)
    ]

-- the huts of a set from f on: none where there is no next, and else the next and those after it
pub huts_none : (s : HutSet) (f : ℕ) → Next s f 1024 → huts_from s f ≡ []
huts_none s f on = filter_none (in_set s) f (1024 - f) (λ k since l. on.none_between k since (omega arith))

pub huts_next : (s : HutSet) (f h : ℕ) → h < 1024 → Next s f h → huts_from s f ≡ h ∷ huts_from s (h + 1)
huts_next s f h l on =
    let is = on.is l in
    let e : f + (1024 - f) - (h + 1) ≡ 1024 - (h + 1) = omega (arith, is.0) in
    rw e at (filter_next (in_set s) f (1024 - f) h is.0 (omega (arith, is.0)) on.none_between is.1)
