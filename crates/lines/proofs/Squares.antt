-- The smallest square: it is one, none is smaller, and there is none only if there is none whatever. Assumes nothing.
use Rattle.std.proofs.Common.{◌≡◌, ℕ, ◌<◌, Bool, true, false, ltb, Some, None, Option, sym, refl, ap, ◌∙◌, inl, inr, arith}
use Rattle.std.proofs.lemmas.Bool.{both_ways, cases_Bool, cases_eq}
use Rattle.std.proofs.lemmas.Bool.Decides.{nat_tests}
use Rattle.plans.specs.declared.Square.{Square}
use Rattle.lines.specs.Line.{Lines}
use Rattle.lines.specs.Square.{square, before, goes_on1, goes_on2, goes_on3, first_a, first_b, first_c, first_d, smallest, Among, SmallestBy, Smallest}
use Rattle.lines.proofs.Lowest.{lowest_is, lowest_le, some_from, none_from, some_at}

-- four numbers as a square
abbrev pub four : ℕ → ℕ → ℕ → ℕ → Square
four a b c d = record { a = a; b = b; c = c; d = d }

module _ (n : ℕ) (l : Lines) where
  -- a square goes on from each of its beginnings
  goes3 : (a b c d : ℕ) → d < n → square l a b c d ≡ true → goes_on3 n l a b c ≡ true
  goes3 a b c d ld t = some_from (square l a b c) n d ld t

  goes2 : (a b c d : ℕ) → c < n → d < n → square l a b c d ≡ true → goes_on2 n l a b ≡ true
  goes2 a b c d lc ld t = some_from (goes_on3 n l a b) n c lc (goes3 a b c d ld t)

  goes1 : (a b c d : ℕ) → b < n → c < n → d < n → square l a b c d ≡ true → goes_on1 n l a ≡ true
  goes1 a b c d lb lc ld t = some_from (goes_on2 n l a) n b lb (goes2 a b c d lc ld t)

  -- the lowest that go on are a square, and none is smaller
  firsts : ltb (first_a n l) n ≡ true → Smallest n l (Some (four (first_a n l) (first_b n l (first_a n l)) (first_c n l (first_a n l) (first_b n l (first_a n l))) (first_d n l (first_a n l) (first_b n l (first_a n l)) (first_c n l (first_a n l) (first_b n l (first_a n l))))))
  firsts t =
      let a : ℕ = first_a n l in
      let b : ℕ = first_b n l a in
      let c : ℕ = first_c n l a b in
      let d : ℕ = first_d n l a b c in
      let la : a < n = grind (arith, nat_tests) in
      let fb = some_at (goes_on2 n l a) n ((lowest_is (goes_on1 n l) n).passes la) in
      let fc = some_at (goes_on3 n l a b) n fb.1 in
      let fd = some_at (square l a b c) n fc.1 in (
        record { there = (la, fb.0, fc.0, fd.0); is = fd.1 },
        λ s q.
            let w = q.there in
            let ga = lowest_le (goes_on1 n l) n s.a (goes1 s.a s.b s.c s.d w.1 w.2 w.3 q.is) in
            elim (cases_eq s.a a) [
              | inr differ ↦ grind (arith, nat_tests)
              | inl sa ↦
                  let qa : square l a s.b s.c s.d ≡ true = rw sa at q.is in
                  let gb = lowest_le (goes_on2 n l a) n s.b (goes2 a s.b s.c s.d w.2 w.3 qa) in
                  elim (cases_eq s.b b) [
                    | inr differ ↦ grind (arith, nat_tests)
                    | inl sb ↦
                        let qb : square l a b s.c s.d ≡ true = rw sb at qa in
                        let gc = lowest_le (goes_on3 n l a b) n s.c (goes3 a b s.c s.d w.3 qb) in
                        elim (cases_eq s.c c) [
                          | inr differ ↦ grind (arith, nat_tests)
                          | inl sc ↦
                              let qc : square l a b c s.d ≡ true = rw sc at qb in
                              let gd = lowest_le (square l a b c) n s.d qc in
                              grind (arith, nat_tests)
                        ]
                  ]
            ],
      )

  pub smallest_is : Smallest n l (smallest n l)
  unfolding smallest
  smallest_is =
      elim (cases_Bool (ltb (first_a n l) n)) [
        | inl t ↦ rw t (firsts t)
        | inr f ↦
            rw f
            (λ s q.
            let w = q.there in
            let g = goes1 s.a s.b s.c s.d w.1 w.2 w.3 q.is in
            let no_a = none_from (goes_on1 n l) n f s.a w.0 in
            both_ways (goes_on1 n l s.a) no_a g)
      ]

  -- of two different squares one is smaller
  apart_squares : (s t : Square) → before s t ≡ false → before t s ≡ false → s ≡ t
  apart_squares s t p q =
      let a : s.a ≡ t.a = grind (arith, nat_tests) in
      let b : s.b ≡ t.b = grind (arith, nat_tests) in
      let c : s.c ≡ t.c = grind (arith, nat_tests) in
      let d : s.d ≡ t.d = grind (arith, nat_tests) in
      λ i. record { a = a i; b = b i; c = c i; d = d i }

  -- so there is one smallest square only
  pub smallest_only : (o p : Option Square) → Smallest n l o → Smallest n l p → o ≡ p
  smallest_only None None h k = refl
  smallest_only None (Some t) h k = absurd (h t k.0)
  smallest_only (Some s) None h k = absurd (k s h.0)
  smallest_only (Some s) (Some t) h k = ap Some (apart_squares s t (k.1 s h.0) (h.1 t k.0))

-- tests that agree on huts that are there have the same smallest four
pub smallest_same :
    (n : ℕ) (f g : ℕ → ℕ → ℕ → ℕ → Bool) → ((a b c d : ℕ) → a < n → b < n → c < n → d < n → f a b c d ≡ g a b c d) → (o : Option Square) → SmallestBy n f o → SmallestBy n g o
smallest_same n f g same o h = moved o h
  where
    turn : (t : Square) → Among n g t → Among n f t
    turn t q = let w = q.there in record { there = w; is = same t.a t.b t.c t.d w.0 w.1 w.2 w.3 ∙ q.is }

    moved : (o : Option Square) → SmallestBy n f o → SmallestBy n g o
    moved None h = λ t q. h t (turn t q)
    moved (Some s) h =
        let w = h.0.there in
        (record { there = w; is = sym (same s.a s.b s.c s.d w.0 w.1 w.2 w.3) ∙ h.0.is }, λ t q. h.1 t (turn t q))
