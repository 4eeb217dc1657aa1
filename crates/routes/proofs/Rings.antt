-- A ring: the huts that are reached with a line more. Assumes nothing.
use Rattle.std.proofs.Common.{◌≡◌, ℕ, ◌+◌, ◌<◌, Bool, true, false, ◌&&◌, ◌||◌, eqb, ltb, [], ◌∷◌, ◌++◌, length, get_or, set, vec_items, sym, refl, inl, inr, append_assoc, append-nil, add-one, arith}
use Rattle.std.proofs.lemmas.List.{get_or-set_same, get_or-set_other, length-set}
use Rattle.std.proofs.lemmas.Bool.{cases_Bool, cases_eq}
use Rattle.std.proofs.lemmas.Bool.Decides.{nat_tests}
use Rattle.sets.specs.declared.HutSet.{HutSet}
use Rattle.sets.specs.Set.{in_set, Meets, row_of}
use Rattle.sets.proofs.Sets.{in_below}
use Rattle.lines.specs.Way.{lowest, some}
use Rattle.lines.specs.Row.{those}
use Rattle.lines.proofs.Lowest.{some_from, some_at}
use Rattle.rows.specs.declared.table.Rows.{Rows}
use Rattle.routes.specs.declared.reaching.Reach.{Reach}
use Rattle.routes.specs.Fresh.{fresh}
use Rattle.routes.specs.Ring.{Ringed}

-- some hut is in both sets, as a test
pub meets_some : (s t : HutSet) (r : Bool) → Meets s t 0 r → r ≡ some (λ j. in_set s j && in_set t j) 1024
meets_some s t true m =
    let one = m.one in
    let other = m.other in
    sym (some_from (λ j. in_set s j && in_set t j) 1024 m.hut (in_below s m.hut one) (grind arith))
meets_some s t false m =
    elim (cases_Bool (some (λ j. in_set s j && in_set t j) 1024)) [
      | inl found ↦
          let at = some_at (λ j. in_set s j && in_set t j) 1024 found in
          let is = at.1 in
          let not_it = m (lowest (λ j. in_set s j && in_set t j) 1024) (omega arith) in
          absurd (grind arith)
      | inr none ↦ sym none
    ]

pub fresh_no : (rows : Rows) (s : HutSet) (k : ℕ) → in_set s k ≡ true → false ≡ fresh rows s k
unfolding fresh
fresh_no rows s k t = grind arith

pub fresh_is : (rows : Rows) (s : HutSet) (k : ℕ) (r : Bool) → in_set s k ≡ false → Meets (row_of (vec_items rows.of) k) s 0 r → r ≡ fresh rows s k
unfolding fresh
fresh_is rows s k r f m = let e = meets_some (row_of (vec_items rows.of) k) s r m in grind arith

module _ (rows : Rows) (m d : ℕ) (x : Reach) where
  pub ringed_none : Ringed rows 0 d x x
  unfolding those
  ringed_none = record { set = λ k. grind (arith, nat_tests); far = λ k l. grind (arith, nat_tests); size = refl; listed = sym (append-nil (vec_items x.row)) }

  -- one hut more that is not fresh
  pub ringed_skip : (y : Reach) → fresh rows x.huts m ≡ false → Ringed rows m d x y → Ringed rows (m + 1) d x y
  unfolding those
  ringed_skip y f before =
      record {
        set =
            λ k.
            let b = before.set k in
            elim (cases_eq k m) [ inl same ↦ let f' : fresh rows x.huts k ≡ false = rw same f in grind (arith, nat_tests) | inr other ↦ grind (arith, nat_tests) ];
        far =
            λ k l.
            let b = before.far k l in
            elim (cases_eq k m) [ inl same ↦ let f' : fresh rows x.huts k ≡ false = rw same f in grind (arith, nat_tests) | inr other ↦ grind (arith, nat_tests) ];
        size = before.size;
        listed = rw (add-one, f, append-nil (those (fresh rows x.huts) m)) before.listed;
      }

  -- one hut more that is fresh
  pub ringed_more :
      (y z : Reach) → fresh rows x.huts m ≡ true → m < length (vec_items x.distances) → m < 1024 → ((k : ℕ) → in_set z.huts k ≡ ((eqb m k && ltb k 1024) || in_set y.huts k)) →
      vec_items z.distances ≡ set (vec_items y.distances) m d → vec_items z.row ≡ vec_items y.row ++ (m ∷ []) → Ringed rows m d x y → Ringed rows (m + 1) d x z
  unfolding those
  ringed_more y z f lm few into put pushed before =
      record {
        set =
            λ k.
            let b = before.set k in
            let i = into k in
            elim (cases_eq k m) [ inl same ↦ let f' : fresh rows x.huts k ≡ true = rw same f in grind (arith, nat_tests) | inr other ↦ grind (arith, nat_tests) ];
        far =
            λ k l.
            let b = before.far k l in
            let size = before.size in
            elim (cases_eq k m) [
              | inl same ↦
                  let f' : fresh rows x.huts k ≡ true = rw same f in
                  let here : get_or (vec_items z.distances) k 0 ≡ d = rw (put, same) (get_or-set_same (vec_items y.distances) m d 0 (omega arith)) in
                  grind (arith, nat_tests)
              | inr other ↦
                  let there : get_or (vec_items z.distances) k 0 ≡ get_or (vec_items y.distances) k 0 = rw put (get_or-set_other (vec_items y.distances) m k d 0 other) in
                  grind (arith, nat_tests)
            ];
        size = rw (put, length-set) before.size;
        listed = rw (pushed, before.listed, add-one, f) (append_assoc (vec_items x.row) (those (fresh rows x.huts) m) (m ∷ []));
      }
