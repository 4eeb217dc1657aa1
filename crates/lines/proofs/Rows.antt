-- The row: it has each hut that is not in the middle once, and is sorted. Assumes nothing.
use Rattle.std.proofs.Common.{◌≡◌, ℕ, zero, suc, ◌+◌, ◌<◌, Bool, true, false, cond, ◌&&◌, eqb, ltb, leb, List, [], ◌∷◌, ◌++◌, length, refl, inl, inr, arith, length-append}
use Rattle.std.proofs.lemmas.Bool.{cases_Bool, cases_eq}
use Rattle.std.proofs.lemmas.Bool.Decides.{nat_tests}
use Rattle.fewest.proofs.Counts.{bit, how_many}
use Rattle.lines.specs.Line.{Lines}
use Rattle.lines.specs.Way.{within, distance}
use Rattle.lines.specs.Row.{those, row_to}
use Rattle.lines.specs.Order.{times, every, comes, sorted}
use Rattle.lines.proofs.Ways.{within-distance}

pub times-append : (x : ℕ) (xs ys : List ℕ) → times x (xs ++ ys) ≡ times x xs + times x ys
unfolding times
times-append x [] ys = omega arith
times-append x (y ∷ xs) ys = let rest = times-append x xs ys in omega arith

pub every_append : (f : ℕ → Bool) (xs ys : List ℕ) → every f xs ≡ true → every f ys ≡ true → every f (xs ++ ys) ≡ true
unfolding every
every_append f [] ys p q = q
every_append f (x ∷ xs) ys p q = let rest = every_append f xs ys (grind arith) q in grind arith

pub every_mono : (f g : ℕ → Bool) (xs : List ℕ) → ((x : ℕ) → f x ≡ true → g x ≡ true) → every f xs ≡ true → every g xs ≡ true
unfolding every
every_mono f g [] h t = t
every_mono f g (x ∷ xs) h t = let rest = every_mono f g xs h (grind arith) in let one = h x (grind arith) in grind arith

-- two sorted lists, all of the first before all of the second
pub sorted-append :
    (f : ℕ → ℕ) (P Q : ℕ → Bool) → ((x y : ℕ) → P x ≡ true → Q y ≡ true → comes f x y ≡ true) →
    (xs ys : List ℕ) → every P xs ≡ true → every Q ys ≡ true → sorted f xs ≡ true → sorted f ys ≡ true → sorted f (xs ++ ys) ≡ true
unfolding sorted every
sorted-append f P Q h [] ys p q s t = t
sorted-append f P Q h (x ∷ xs) ys p q s t =
    let rest = sorted-append f P Q h xs ys (grind arith) q (grind arith) t in
    let later = every_mono Q (comes f x) ys (λ y py. h x y (grind arith) py) q in
    let all = every_append (comes f x) xs ys (grind arith) later in
    grind arith

pub every-those : (f : ℕ → Bool) (m : ℕ) → every (λ i. ltb i m && f i) (those f m) ≡ true
unfolding those every
every-those f zero = refl
every-those f (suc m) =
    let before = every_mono (λ i. ltb i m && f i) (λ i. ltb i (suc m) && f i) (those f m) (λ x t. grind (arith, nat_tests)) (every-those f m) in
    elim (cases_Bool (f m)) [
      | inl t ↦
          let one : every (λ i. ltb i (suc m) && f i) (m ∷ []) ≡ true = grind (arith, nat_tests) in
          let all = every_append (λ i. ltb i (suc m) && f i) (those f m) (m ∷ []) before one in
          rw t all
      | inr t ↦ rw t (every_append (λ i. ltb i (suc m) && f i) (those f m) [] before refl)
    ]

pub times-those : (f : ℕ → Bool) (m x : ℕ) → times x (those f m) ≡ bit (ltb x m && f x)
unfolding those times
times-those f zero x = grind (arith, nat_tests)
times-those f (suc m) x =
    let before = times-those f m x in
    let split = times-append x (those f m) (cond (f m) (m ∷ []) []) in
    elim (cases_Bool (f m)) [
      | inl t ↦
          let s : times x (those f m ++ (m ∷ [])) ≡ times x (those f m) + times x (m ∷ []) = times-append x (those f m) (m ∷ []) in
          rw t (elim (cases_eq x m) [ inl same ↦ rw same (let s' = rw same at s in let b' = rw same at before in grind (arith, nat_tests)) | inr other ↦ grind (arith, nat_tests) ])
      | inr t ↦
          let s : times x (those f m ++ []) ≡ times x (those f m) + times x [] = times-append x (those f m) [] in
          rw t (elim (cases_eq x m) [ inl same ↦ rw same (let s' = rw same at s in let b' = rw same at before in grind (arith, nat_tests)) | inr other ↦ grind (arith, nat_tests) ])
    ]

-- tests that agree below m pick the same
pub those_same : (f g : ℕ → Bool) (m : ℕ) → ((k : ℕ) → k < m → f k ≡ g k) → those f m ≡ those g m
unfolding those
those_same f g zero e = refl
those_same f g (suc m) e = rw (those_same f g m (λ k l. e k (omega arith)), e m (omega arith))

pub those_none : (f : ℕ → Bool) (m : ℕ) → ((k : ℕ) → k < m → f k ≡ false) → those f m ≡ []
unfolding those
those_none f zero e = refl
those_none f (suc m) e = rw (those_none f m (λ k l. e k (omega arith)), e m (omega arith))

pub length-those : (f : ℕ → Bool) (m : ℕ) → length (those f m) ≡ how_many f m
unfolding those how_many
length-those f zero = refl
length-those f (suc m) =
    let before = length-those f m in
    elim (cases_Bool (f m)) [ inl t ↦ rw (t, length-append) (omega arith) | inr t ↦ rw (t, length-append) (omega arith) ]

-- the numbers that pass one test or another, never both
pub many_sum : (f g h : ℕ → Bool) (n : ℕ) → ((i : ℕ) → i < n → bit (h i) ≡ bit (f i) + bit (g i)) → how_many h n ≡ how_many f n + how_many g n
unfolding how_many
many_sum f g h zero e = refl
many_sum f g h (suc n) e = let before = many_sum f g h n (λ i l. e i (omega arith)) in let one = e n (omega arith) in omega arith

pub many_same : (f g : ℕ → Bool) (n : ℕ) → ((i : ℕ) → i < n → f i ≡ g i) → how_many f n ≡ how_many g n
unfolding how_many
many_same f g zero e = refl
many_same f g (suc n) e = let before = many_same f g n (λ i l. e i (omega arith)) in let one = e n (omega arith) in grind arith

-- those with the same key are sorted by number
sorted-those : (f : ℕ → ℕ) (c m : ℕ) → sorted f (those (λ i. eqb (f i) c) m) ≡ true
unfolding those sorted every
sorted-those f c zero = refl
sorted-those f c (suc m) =
    let before = sorted-those f c m in
    let low = every-those (λ i. eqb (f i) c) m in
    let P : ℕ → Bool = λ i. ltb i m && eqb (f i) c in
    elim (cases_Bool (eqb (f m) c)) [
      | inl t ↦ rw t (sorted-append f P (λ i. eqb i m && eqb (f i) c) (λ x y p q. grind (arith, nat_tests)) (those (λ i. eqb (f i) c) m) (m ∷ []) low (grind (arith, nat_tests)) before refl)
      | inr t ↦ rw t (sorted-append f P (λ _. false) (λ x y p q. absurd (grind arith)) (those (λ i. eqb (f i) c) m) [] low refl before refl)
    ]

module _ (n : ℕ) (l : Lines) (mid : ℕ → Bool) where
  abbrev far : ℕ → ℕ
  far i = distance n l mid i

  -- the huts of the row are there, outside the middle, and no further than d lines
  pub every-row : (d : ℕ) → every (λ i. ltb i n && (ltb 0 (far i) && leb (far i) d)) (row_to n l mid d) ≡ true
  unfolding row_to every
  every-row zero = refl
  every-row (suc d) =
      every_append (λ i. ltb i n && (ltb 0 (far i) && leb (far i) (suc d))) (row_to n l mid d) (those (λ i. eqb (far i) (suc d)) n)
      (every_mono (λ i. ltb i n && (ltb 0 (far i) && leb (far i) d)) (λ i. ltb i n && (ltb 0 (far i) && leb (far i) (suc d))) (row_to n l mid d) (λ x t. grind (arith, nat_tests)) (every-row d))
      (every_mono (λ i. ltb i n && eqb (far i) (suc d)) (λ i. ltb i n && (ltb 0 (far i) && leb (far i) (suc d))) (those (λ i. eqb (far i) (suc d)) n) (λ x t. grind (arith, nat_tests))
      (every-those (λ i. eqb (far i) (suc d)) n))

  pub sorted-row : (d : ℕ) → sorted far (row_to n l mid d) ≡ true
  unfolding row_to sorted
  sorted-row zero = refl
  sorted-row (suc d) =
      sorted-append far (λ i. ltb i n && (ltb 0 (far i) && leb (far i) d)) (λ i. ltb i n && eqb (far i) (suc d)) (λ x y p q. grind (arith, nat_tests)) (row_to n l mid d) (those (λ i. eqb (far i) (suc d)) n)
      (every-row d)
      (every-those (λ i. eqb (far i) (suc d)) n)
      (sorted-row d)
      (sorted-those far (suc d) n)

  pub times-row : (d x : ℕ) → times x (row_to n l mid d) ≡ bit (ltb x n && (ltb 0 (far x) && leb (far x) d))
  unfolding row_to times
  times-row zero x = grind (arith, nat_tests)
  times-row (suc d) x =
      let before = times-row d x in
      let here = times-those (λ i. eqb (far i) (suc d)) n x in
      let split = times-append x (row_to n l mid d) (those (λ i. eqb (far i) (suc d)) n) in
      rw (split, before, here) (grind (arith, nat_tests))

  -- with a line more those are reached that are just so many lines away
  many_ring : (d : ℕ) → suc d < n → how_many (within n l mid (suc d)) n ≡ how_many (within n l mid d) n + how_many (λ i. eqb (far i) (suc d)) n
  many_ring d h =
      many_sum (within n l mid d) (λ i. eqb (far i) (suc d)) (within n l mid (suc d)) n
      (λ i li. let b = within-distance n l mid d i (omega arith) in let c = within-distance n l mid (suc d) i h in rw (b, c) (grind (arith, nat_tests)))

  -- the middle and the row have as many huts as are reached
  pub length-row : (d : ℕ) → d < n → length (row_to n l mid d) + how_many mid n ≡ how_many (within n l mid d) n
  unfolding row_to within
  length-row zero h = omega arith
  length-row (suc d) h =
      let before = length-row d (omega arith) in
      let ring = length-those (λ i. eqb (far i) (suc d)) n in
      let sum = many_ring d h in
      rw length-append (omega arith)
