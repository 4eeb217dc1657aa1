-- The search for a square: which huts are known to begin none. Assumes nothing.
--     None4 rows a b c d  the four make none
--     None3 rows a b c    no d makes a square with a, b and c
--     None2 rows a b      no c and d make one with a and b
--     None1 rows a        no b, c and d make one with a
use Rattle.std.proofs.Common.{◌≡◌, ℕ, ◌+◌, ◌<◌, ◌≤◌, true, false, ◌&&◌, ltb, ◌⊎◌, List, [], ◌∷◌, vec_items, Some, inl, inr, arith}
use Rattle.std.proofs.lemmas.Bool.{both_ways, cases_Bool, cases_order}
use Rattle.std.proofs.lemmas.Bool.Decides.{nat_tests}
use Rattle.plans.specs.declared.Square.{Square}
use Rattle.sets.specs.Set.{huts_from, row_of}
use Rattle.lines.specs.Square.{SmallestBy, before}
use Rattle.rows.specs.declared.table.Rows.{Rows}
use Rattle.rows.specs.Rows.{huts}
use Rattle.routes.specs.Seen.{stands, seen}
use Rattle.routes.proofs.Left.{Left, left_all, left_first, left_rest, left_none}

abbrev pub None4 : Rows → ℕ → ℕ → ℕ → ℕ → Type 0
None4 rows a b c d = seen rows a b c d ≡ false

abbrev pub None3 : Rows → ℕ → ℕ → ℕ → Type 0
None3 rows a b c = (d : ℕ) → d < huts rows → None4 rows a b c d

abbrev pub None2 : Rows → ℕ → ℕ → Type 0
None2 rows a b = (c d : ℕ) → c < huts rows → d < huts rows → seen rows a b c d ≡ false

abbrev pub None1 : Rows → ℕ → Type 0
None1 rows a = (b c d : ℕ) → b < huts rows → c < huts rows → d < huts rows → seen rows a b c d ≡ false

module _ (rows : Rows) where
  -- huts c up to a make no square with a
  pub below_c : (a b c : ℕ) → c < a + 1 → None3 rows a b c
  below_c a b c h d ld = grind (arith, nat_tests)

  -- huts d up to b make none with a, b and c
  below_d : (a b c d : ℕ) → d < b + 1 → None4 rows a b c d
  below_d a b c d h = grind (arith, nat_tests)

  -- a line that is missing
  pub no_line_ab : (a b : ℕ) → stands rows a b ≡ false → None2 rows a b
  no_line_ab a b f c d lc ld = grind arith

  pub no_line_bc : (a b c : ℕ) → stands rows b c ≡ false → None3 rows a b c
  no_line_bc a b c f d ld = grind arith

  no_line_cd : (a b c d : ℕ) → stands rows c d ≡ false → None4 rows a b c d
  no_line_cd a b c d f = grind arith

  pub no_line_ad : (a b c d : ℕ) → false ≡ stands rows a d → None4 rows a b c d
  no_line_ad a b c d f = grind arith

  -- the neighbours of a that are left, as far as a square may begin with a and one of them; those of b for c, and those of c for d
  abbrev pub LeftB : ℕ → List ℕ → Type 0
  LeftB a xs = Left (row_of (vec_items rows.of) a) (a + 1) (None2 rows a) xs

  abbrev pub LeftC : ℕ → ℕ → List ℕ → Type 0
  LeftC a b xs = Left (row_of (vec_items rows.of) b) (a + 1) (None3 rows a b) xs

  abbrev pub LeftD : ℕ → ℕ → ℕ → List ℕ → Type 0
  LeftD a b c xs = Left (row_of (vec_items rows.of) c) (b + 1) (None4 rows a b c) xs

  pub all_c : (a b : ℕ) (xs : List ℕ) → xs ≡ huts_from (row_of (vec_items rows.of) b) (a + 1) → LeftC a b xs
  all_c a b xs e = left_all (row_of (vec_items rows.of) b) (a + 1) (None3 rows a b) (no_line_bc a b) xs e (below_c a b)

  pub all_d : (a b c : ℕ) (xs : List ℕ) → xs ≡ huts_from (row_of (vec_items rows.of) c) (b + 1) → LeftD a b c xs
  all_d a b c xs e = left_all (row_of (vec_items rows.of) c) (b + 1) (None4 rows a b c) (no_line_cd a b c) xs e (below_d a b c)

  pub first_b : (a b : ℕ) (xs ys : List ℕ) → xs ≡ b ∷ ys → LeftB a xs → (a < b) × (b < huts rows) × (stands rows a b ≡ true) × ((w : ℕ) → w < b → None2 rows a w)
  first_b a b xs ys e on =
      let first = left_first (row_of (vec_items rows.of) a) (a + 1) (None2 rows a) (no_line_ab a) b ys (rw e at on) in
      (omega (arith, first.0), rows.there a b first.1, first.1, first.2)

  pub first_c : (a b c : ℕ) (xs ys : List ℕ) → xs ≡ c ∷ ys → LeftC a b xs → (a < c) × (c < huts rows) × (stands rows b c ≡ true) × ((w : ℕ) → w < c → None3 rows a b w)
  first_c a b c xs ys e on =
      let first = left_first (row_of (vec_items rows.of) b) (a + 1) (None3 rows a b) (no_line_bc a b) c ys (rw e at on) in
      (omega (arith, first.0), rows.there b c first.1, first.1, first.2)

  pub first_d :
      (a b c d : ℕ) (xs ys : List ℕ) → xs ≡ d ∷ ys → LeftD a b c xs → (b < d) × (d < huts rows) × (stands rows c d ≡ true) × ((w : ℕ) → w < d → None4 rows a b c w)
  first_d a b c d xs ys e on =
      let first = left_first (row_of (vec_items rows.of) c) (b + 1) (None4 rows a b c) (no_line_cd a b c) d ys (rw e at on) in
      (omega (arith, first.0), rows.there c d first.1, first.1, first.2)

  pub rest_b : (a b : ℕ) (xs ys : List ℕ) → xs ≡ b ∷ ys → LeftB a xs → None2 rows a b → LeftB a ys
  rest_b a b xs ys e on here = left_rest (row_of (vec_items rows.of) a) (a + 1) (None2 rows a) (no_line_ab a) b ys (rw e at on) here

  pub rest_c : (a b c : ℕ) (xs ys : List ℕ) → xs ≡ c ∷ ys → LeftC a b xs → None3 rows a b c → LeftC a b ys
  rest_c a b c xs ys e on here = left_rest (row_of (vec_items rows.of) b) (a + 1) (None3 rows a b) (no_line_bc a b) c ys (rw e at on) here

  pub rest_d : (a b c d : ℕ) (xs ys : List ℕ) → xs ≡ d ∷ ys → LeftD a b c xs → None4 rows a b c d → LeftD a b c ys
  rest_d a b c d xs ys e on here = left_rest (row_of (vec_items rows.of) c) (b + 1) (None4 rows a b c) (no_line_cd a b c) d ys (rw e at on) here

  pub none_b : (a : ℕ) (xs : List ℕ) → xs ≡ [] → LeftB a xs → None1 rows a
  none_b a xs e on b c d lb lc ld = left_none (row_of (vec_items rows.of) a) (a + 1) (None2 rows a) (no_line_ab a) (rw e at on) b (let few = rows.few in omega arith) c d lc ld

  pub none_c : (a b : ℕ) (xs : List ℕ) → xs ≡ [] → LeftC a b xs → None2 rows a b
  none_c a b xs e on c d lc ld = left_none (row_of (vec_items rows.of) b) (a + 1) (None3 rows a b) (no_line_bc a b) (rw e at on) c (let few = rows.few in omega arith) d ld

  pub none_d : (a b c : ℕ) (xs : List ℕ) → xs ≡ [] → LeftD a b c xs → None3 rows a b c
  none_d a b c xs e on d ld = left_none (row_of (vec_items rows.of) c) (b + 1) (None4 rows a b c) (no_line_cd a b c) (rw e at on) d (let few = rows.few in omega arith)

  -- nobody beyond b has lines to a and to c
  pub no_meeting : (a b c : ℕ) → ((k : ℕ) → b + 1 ≤ k → (stands rows a k && stands rows c k) ≡ false) → None3 rows a b c
  no_meeting a b c none d ld =
      elim (cases_Bool (ltb b d)) [
        | inl t ↦ let f = none d (grind (arith, nat_tests)) in grind arith
        | inr f ↦ grind arith
      ]

  -- all four lines are there
  pub found :
      (a b c d : ℕ) → a < b → a < c → b < d → stands rows a b ≡ true → stands rows b c ≡ true → stands rows c d ≡ true → true ≡ stands rows a d →
      seen rows a b c d ≡ true
  found a b c d lb lc ld ab bc cd ad = grind (arith, nat_tests)

  -- one that is smaller begins with less, in one of four ways
  first_seen_before :
      (a b c d : ℕ) (t : Square) → before t (record { a = a; b = b; c = c; d = d }) ≡ true →
      (t.a < a) ⊎ ((t.a ≡ a) × ((t.b < b) ⊎ ((t.b ≡ b) × ((t.c < c) ⊎ ((t.c ≡ c) × (t.d < d))))))
  first_seen_before a b c d t h =
      elim (cases_order t.a a) [
        | inr apart ↦ elim apart [ inl less ↦ inl less | inr more ↦ absurd (grind (arith, nat_tests)) ]
        | inl sa ↦
            elim (cases_order t.b b) [
              | inr apart ↦ elim apart [ inl less ↦ inr (sa, inl less) | inr more ↦ absurd (grind (arith, nat_tests)) ]
              | inl sb ↦
                  elim (cases_order t.c c) [
                    | inr apart ↦ elim apart [ inl less ↦ inr (sa, inr (sb, inl less)) | inr more ↦ absurd (grind (arith, nat_tests)) ]
                    | inl sc ↦ inr (sa, inr (sb, inr (sc, grind (arith, nat_tests))))
                  ]
            ]
      ]

  -- the first that is found is the smallest
  pub first_seen :
      (a b c d : ℕ) → a < huts rows → b < huts rows → c < huts rows → d < huts rows → seen rows a b c d ≡ true →
      ((w : ℕ) → w < a → None1 rows w) → ((w : ℕ) → w < b → None2 rows a w) → ((w : ℕ) → w < c → None3 rows a b w) →
      ((w : ℕ) → w < d → None4 rows a b c w) → SmallestBy (huts rows) (seen rows) (Some (record { a = a; b = b; c = c; d = d }))
  first_seen a b c d la lb lc ld is na nb nc nd = (
    record { there = (la, lb, lc, ld); is = is },
    λ t q.
        let w = q.there in
        let on = q.is in
        elim (cases_Bool (before t (record { a = a; b = b; c = c; d = d }))) [
          | inr f ↦ f
          | inl sooner ↦
              elim (first_seen_before a b c d t sooner) [
                | inl less ↦ absurd (both_ways (seen rows t.a t.b t.c t.d) (na t.a less t.b t.c t.d w.1 w.2 w.3) on)
                | inr sa ↦
                    let on_a : seen rows a t.b t.c t.d ≡ true = rw sa.0 at on in
                    elim sa.1 [
                      | inl less ↦ absurd (both_ways (seen rows a t.b t.c t.d) (nb t.b less t.c t.d w.2 w.3) on_a)
                      | inr sb ↦
                          let on_b : seen rows a b t.c t.d ≡ true = rw sb.0 at on_a in
                          elim sb.1 [
                            | inl less ↦ absurd (both_ways (seen rows a b t.c t.d) (nc t.c less t.d w.3) on_b)
                            | inr sc ↦
                                let on_c : seen rows a b c t.d ≡ true = rw sc.0 at on_b in
                                absurd (both_ways (seen rows a b c t.d) (nd t.d sc.1) on_c)
                          ]
                    ]
              ]
        ],
  )
