-- Counting: how many huts pass a test, sums over the places of a list of calls, and counting in two ways. Assumes nothing.
--     how_many f n        how many numbers below n pass the test f
--     whole ts es         the list in which the calls es were made, the latest first, and then the calls ts, the next one first
--     Places X            something for each place of a list: for a call c, the calls l after it, and the calls r before it
--     total f ts es       the sum of f over the places of es, where the calls ts come after es
--     Found hit ts es     a place of es at which the test hit is passed
-- At a place both lists begin next to the call: l with the next one, r with the latest one. So with l and r exchanged it is the same place in turned time.
use Rattle.std.proofs.Common.{◌≡◌, ℕ, zero, suc, ◌+◌, ◌*◌, ◌<◌, ◌≤◌, Bool, true, false, cond, not, ◌&&◌, ◌||◌, eqb, ◌⊎◌, List, [], ◌∷◌, length, refl, inl, inr, arith}
use mathlib.Core.List.{reverse_aux}
use Rattle.std.proofs.lemmas.Bool.{both_ways, cases_Bool, cases_eq, cond-true}
use Rattle.std.proofs.lemmas.Bool.Decides.{nat_tests}
use Rattle.calls.specs.Call.{Call, busy}

abbrev pub bit : Bool → ℕ
bit b = cond b 1 0

unfoldable pub how_many : (ℕ → Bool) → ℕ → ℕ
how_many f zero = 0
how_many f (suc n) = bit (f n) + how_many f n

-- all numbers below n
pub many_all : (n : ℕ) → how_many (λ _. true) n ≡ n
unfolding how_many
many_all zero = refl
many_all (suc n) = let h = many_all n in omega arith

-- none
many_none : (f : ℕ → Bool) (n : ℕ) → ((w : ℕ) → w < n → f w ≡ false) → how_many f n ≡ 0
unfolding how_many
many_none f zero h = refl
many_none f (suc n) h = let before = many_none f n (λ w l. h w (omega arith)) in let here = h n (omega arith) in grind arith

-- at most one passes, and none unless b
pub many_one :
    (f : ℕ → Bool) (b : Bool) (n : ℕ) → ((w v : ℕ) → f w ≡ true → f v ≡ true → w ≡ v) → ((w : ℕ) → w < n → f w ≡ true → b ≡ true) → how_many f n ≤ bit b
unfolding how_many
many_one f b zero one only = omega arith
many_one f b (suc n) one only =
    elim (cases_Bool (f n)) [
      | inl here ↦
          let none : how_many f n ≡ 0 = many_none f n (λ w l. elim (cases_Bool (f w)) [ inl t ↦ let e = one w n t here in absurd (omega arith) | inr not_it ↦ not_it ]) in
          let e = only n (omega arith) here in
          grind arith
      | inr not_it ↦ let before = many_one f b n one (λ w l. only w (omega arith)) in grind arith
    ]

-- the numbers that pass are those that pass another test too, and those that do not
many_split : (f g : ℕ → Bool) (n : ℕ) → how_many f n ≡ how_many (λ w. f w && g w) n + how_many (λ w. f w && not (g w)) n
unfolding how_many
many_split f g zero = refl
many_split f g (suc n) = let before = many_split f g n in grind arith

-- all but one
pub many_others : (x n : ℕ) → n ≤ 1 + how_many (λ w. not (eqb w x)) n
many_others x n =
    let all = many_all n in
    let split : how_many (λ _. true) n ≡ how_many (λ w. eqb w x) n + how_many (λ w. not (eqb w x)) n = many_split (λ _. true) (λ w. eqb w x) n in
    let one = many_one (λ w. eqb w x) true n (λ w v p q. grind (arith, nat_tests)) (λ w l p. refl) in
    omega arith

-- at most two pass, and none unless b
pub many_two :
    (f : ℕ → Bool) (b : Bool) (a e n : ℕ) → ((w : ℕ) → f w ≡ true → (eqb w a || eqb w e) ≡ true) → ((w : ℕ) → w < n → f w ≡ true → b ≡ true) →
    how_many f n ≤ 2 * bit b
many_two f b a e n two only =
    let split = many_split f (λ w. eqb w a) n in
    let first = many_one (λ w. f w && eqb w a) b n (λ w v p q. grind (arith, nat_tests)) (λ w l p. only w l (grind (arith, nat_tests))) in
    let second =
    many_one (λ w. f w && not (eqb w a)) b n
    (λ w v p q. let i = two w (grind (arith, nat_tests)) in let j = two v (grind (arith, nat_tests)) in grind (arith, nat_tests))
    (λ w l p. only w l (grind (arith, nat_tests)))
    in
    omega arith

-- all below n pass the test, or one does not
pub all_or_one : (f : ℕ → Bool) (n : ℕ) → ((w : ℕ) → w < n → f w ≡ true) ⊎ ((w : ℕ) × (w < n) × (f w ≡ false))
all_or_one f zero = inl (λ w l. absurd (omega arith))
all_or_one f (suc n) =
    elim (cases_Bool (f n)) [
      | inr not_it ↦ inr (n, omega arith, not_it)
      | inl here ↦
          elim (all_or_one f n) [
            | inl all ↦ inl (λ w l. elim (cases_eq w n) [ inl last ↦ rw last here | inr other ↦ all w (omega arith) ])
            | inr one ↦ inr (one.0, omega arith, one.2)
          ]
    ]

abbrev pub whole : List Call → List Call → List Call
whole ts es = reverse_aux ts es

abbrev pub Places : Type 0 → Type 0
Places X = List Call → Call → List Call → X

unfoldable pub total : Places ℕ → List Call → List Call → ℕ
total f ts [] = 0
total f ts (c ∷ es) = f ts c es + total f (c ∷ ts) es

pub total_add : (f g : Places ℕ) (ts es : List Call) → total (λ l c r. f l c r + g l c r) ts es ≡ total f ts es + total g ts es
unfolding total
total_add f g ts [] = refl
total_add f g ts (c ∷ es) = let rest = total_add f g (c ∷ ts) es in omega arith

pub total_const : (k : ℕ) (ts es : List Call) → total (λ _ _ _. k) ts es ≡ k * length es
unfolding total
total_const k ts [] = omega arith
total_const k ts (c ∷ es) = let rest = total_const k (c ∷ ts) es in omega arith

-- a sum of no less at each place is no less
pub total_mono :
    (f g : Places ℕ) (ts es : List Call) → ((l : List Call) (c : Call) (r : List Call) → whole l (c ∷ r) ≡ whole ts es → f l c r ≤ g l c r) →
    total f ts es ≤ total g ts es
unfolding total
total_mono f g ts [] h = omega arith
total_mono f g ts (c ∷ es) h = let rest = total_mono f g (c ∷ ts) es h in let here = h ts c es refl in omega arith

-- three sums against one
pub total_three :
    (f g h k : Places ℕ) (cs : List Call) → ((l : List Call) (c : Call) (r : List Call) → whole l (c ∷ r) ≡ cs → (f l c r + g l c r) + h l c r ≤ k l c r) →
    (total f [] cs + total g [] cs) + total h [] cs ≤ total k [] cs
total_three f g h k cs each =
    let two = total_add f g [] cs in
    let three = total_add (λ l c r. f l c r + g l c r) h [] cs in
    let all = total_mono (λ l c r. (f l c r + g l c r) + h l c r) k [] cs each in
    omega arith

-- the places of es, and those of ts in turned time, are all
pub total_shift : (f : Places ℕ) (ts es : List Call) → total f ts es + total (λ l c r. f r c l) es ts ≡ total f [] (whole ts es)
unfolding total
total_shift f [] es = omega arith
total_shift f (c ∷ ts) es = let rest = total_shift f ts (c ∷ es) in omega arith

-- in turned time the sum is the same
pub total-turned : (f : Places ℕ) (cs : List Call) → total f [] (whole cs []) ≡ total (λ l c r. f r c l) [] cs
unfolding total
total-turned f cs = let all = total_shift f cs [] in omega arith

-- if each number w below n that passes P is hit at k places or more, then k for each of them is at most what is hit at all places
double :
    (n k : ℕ) (P : ℕ → Bool) (hit : Places (ℕ → Bool)) (cs : List Call) → ((w : ℕ) → w < n → P w ≡ true → k ≤ total (λ l c r. bit (hit l c r w)) [] cs) →
    k * how_many P n ≤ total (λ l c r. how_many (hit l c r) n) [] cs
unfolding how_many
double zero k P hit cs h = omega arith
double (suc n) k P hit cs h =
    let before = double n k P hit cs (λ w l. h w (omega arith)) in
    let sums : total (λ l c r. how_many (hit l c r) (suc n)) [] cs ≡ total (λ l c r. bit (hit l c r n)) [] cs + total (λ l c r. how_many (hit l c r) n) [] cs =
    total_add (λ l c r. bit (hit l c r n)) (λ l c r. how_many (hit l c r) n) [] cs
    in
    elim (cases_Bool (P n)) [
      | inl here ↦ let size : how_many P (suc n) ≡ 1 + how_many P n = grind arith in let enough = h n (omega arith) here in rw size (omega arith)
      | inr not_it ↦ let size : how_many P (suc n) ≡ how_many P n = grind arith in rw size (omega arith)
    ]

-- Counting in two ways: each number below n that passes P is hit at k places or more, and at each place no more than most are hit.
pub two_ways :
    (n k : ℕ) (P : ℕ → Bool) (hit : Places (ℕ → Bool)) (most : Places ℕ) (cs : List Call) →
    ((w : ℕ) → w < n → P w ≡ true → k ≤ total (λ l c r. bit (hit l c r w)) [] cs) →
    ((l : List Call) (c : Call) (r : List Call) → whole l (c ∷ r) ≡ cs → how_many (hit l c r) n ≤ most l c r) →
    k * how_many P n ≤ total most [] cs
two_ways n k P hit most cs enough few =
    let hits = double n k P hit cs enough in
    let each = total_mono (λ l c r. how_many (hit l c r) n) most [] cs few in
    omega arith

-- a place of es at which a test is passed, where the calls ts come after es
pub record Found (hit : Places Bool) (ts es : List Call) : Type 0 where
  pub later : List Call
  pub at : Call
  pub earlier : List Call
  pub is : whole later (at ∷ earlier) ≡ whole ts es
  pub since : (w : ℕ) → busy w ts ≡ true → busy w later ≡ true
  pub holds : hit later at earlier ≡ true

-- a call sooner
pub found_more : (hit : Places Bool) (ts : List Call) (c : Call) (es : List Call) → Found hit (c ∷ ts) es → Found hit ts (c ∷ es)
unfolding busy
found_more hit ts c es f = record { later = f.later; at = f.at; earlier = f.earlier; is = f.is; since = λ w b. f.since w (grind arith); holds = f.holds }

-- what does not hold at first, and does in the end, begins to hold at some place
pub begins : (A : List Call → Bool) → A [] ≡ false → (ts es : List Call) → A es ≡ true → Found (λ l c r. A (c ∷ r) && not (A r)) ts es
begins A none ts [] all = absurd (both_ways (A []) none all)
begins A none ts (c ∷ es) all =
    elim (cases_Bool (A es)) [
      | inl before ↦ found_more (λ l c r. A (c ∷ r) && not (A r)) ts c es (begins A none (c ∷ ts) es before)
      | inr not_yet ↦ record { later = ts; at = c; earlier = es; is = refl; since = λ w b. b; holds = grind arith }
    ]

-- a place of the whole list
pub found_at : (hit : Places Bool) (cs l : List Call) (c : Call) (r : List Call) → whole l (c ∷ r) ≡ cs → hit l c r ≡ true → Found hit [] cs
unfolding busy
found_at hit cs l c r e h = record { later = l; at = c; earlier = r; is = e; since = λ w b. absurd (grind arith); holds = h }

-- what is found is counted
pub counted : (hit : Places Bool) (cs : List Call) (f : Found hit [] cs) → 1 ≤ total (λ l c r. bit (hit l c r)) [] cs
unfolding total
counted hit cs f =
    let ts : List Call = f.later in
    let es : List Call = f.at ∷ f.earlier in
    let all : total (λ l c r. bit (hit l c r)) ts es + total (λ l c r. bit (hit r c l)) es ts ≡ total (λ l c r. bit (hit l c r)) [] cs =
    rw f.is at (total_shift (λ l c r. bit (hit l c r)) ts es)
    in
    let here : bit (hit f.later f.at f.earlier) ≡ 1 = cond-true (hit f.later f.at f.earlier) 1 0 f.holds in
    omega arith
