-- The prescribed plan does it: along the lines, with as many calls as promised. Assumes nothing.
use Rattle.std.proofs.Common.{◌≡◌, ℕ, ◌<◌, true, T, eqb, List, [], ◌∷◌, ◌++◌, drop, Some, None, Option, sym, refl, subst, inl, inr, arith}
use Rattle.std.proofs.lemmas.Bool.{cases_eq}
use Rattle.std.proofs.lemmas.List.{length-drop}
use Rattle.std.proofs.lemmas.Bool.Decides.{nat_tests}
use Rattle.calls.specs.Call.{call, knows, among, AllKnow}
use Rattle.calls.proofs.Known.{knows_own, knows_same, robust}
use Rattle.plans.specs.declared.Square.{Square}
use Rattle.lines.specs.Line.{Lines}
use Rattle.lines.specs.Way.{distance}
use Rattle.lines.specs.Row.{row, partner}
use Rattle.lines.specs.Order.{every}
use Rattle.lines.specs.Square.{Smallest, smallest}
use Rattle.lines.specs.Plan.{along, gather, spread, round, middle, plan_for, plan, Joins, Count, Does}
use Rattle.lines.proofs.Gathers.{absent, Paired, Heard, gathers, spreads, gather-among, gather-along, spread-among, spread-along, length-gather, length-spread}
use Rattle.lines.proofs.Reach.{all-reached}
use Rattle.lines.proofs.Plans.{row_paired, outside_row, row-length, many_one_hut, many_square, rounds}
use Rattle.lines.proofs.Squares.{smallest_is}

pub reached : (n : ℕ) (l : Lines) (o : Option Square) → Joins n l → Smallest n l o → (i : ℕ) → i < n → distance n l (middle o) i < n
reached n l None j q i li = all-reached n l (eqb 0) j.both (λ k lk. let t = j.all k lk in grind (arith, nat_tests)) 0 (omega arith) refl i li
reached n l (Some s) j q i li =
    all-reached n l (middle (Some s)) j.both (λ k lk. let t = j.all k lk in grind (arith, nat_tests)) s.a q.0.there.0 (grind (arith, nat_tests)) i li

module _ (n : ℕ) (l : Lines) (j : Joins n l) where
  -- with a square
  module _ (s : Square) (q : Smallest n l (Some s)) where
    abbrev p : ℕ → ℕ
    p i = partner n l (middle (Some s)) i

    abbrev rs : List ℕ
    rs = row n l (middle (Some s))

    pairs : Paired n l p rs
    pairs = row_paired n l (middle (Some s))

    in_middle : (h : ℕ) → h < n → absent h rs ≡ true → middle (Some s) h ≡ true
    in_middle = outside_row n l (middle (Some s)) (reached n l (Some s) j q)

    square-knows : AllKnow n (plan_for n l (Some s))
    square-knows =
        spreads n l p rs (round s ++ gather p rs) pairs
        (λ h k lh out lk.
        let g : Heard n l p rs k = gathers n l p rs pairs k lk in
        rounds s (gather p rs) h g.hut k (in_middle h lh out) (in_middle g.hut g.there g.outside) g.knew)

    square-among : T (among n (plan_for n l (Some s)))
    unfolding among
    square-among =
        let is = q.0.is in
        let t = q.0.there in
        let ta = t.0 in
        let tb = t.1 in
        let tc = t.2 in
        let td = t.3 in
        let inward = gather-among n l p rs pairs in
        spread-among n l p rs (round s ++ gather p rs) pairs (grind (arith, nat_tests))

    square-along : T (along l (plan_for n l (Some s)))
    unfolding along
    square-along =
        let is = q.0.is in
        let da = j.both s.d s.a in
        let inward = gather-along n l p rs pairs in
        spread-along n l p j.both rs (round s ++ gather p rs) pairs (grind (arith, nat_tests))

    square_count : Count n (Some s) (plan_for n l (Some s))
    square_count =
        let la = q.0.there.0 in
        let size = row-length n l (middle (Some s)) (reached n l (Some s) j q) (omega arith) in
        let four = many_square n l s q.0 in
        let out = length-spread p rs (round s ++ gather p rs) in
        let inward = length-gather p rs in
        omega arith

    with_square : Does n l (Some s) (plan_for n l (Some s))
    with_square =
        record {
          apart = square-among;
          on_lines = square-along;
          all_know = square-knows;
          with_others = λ ds h i k li lk. robust (plan_for n l (Some s)) ds h i k (square-knows i k li lk);
          count = square_count;
        }

  -- without one
  module _ (q : Smallest n l None) where
    abbrev p0 : ℕ → ℕ
    p0 i = partner n l (eqb 0) i

    is_zero : (h : ℕ) → h < n → absent h (row n l (eqb 0)) ≡ true → 0 ≡ h
    is_zero h lh out = let m = outside_row n l (eqb 0) (reached n l None j q) h lh out in grind (arith, nat_tests)

    -- hut 0 knows everything when all have called their partners, and so does the first of the row
    rest_knows :
        (rs : List ℕ) → Paired n l p0 rs → ((h : ℕ) → h < n → absent h rs ≡ true → 0 ≡ h) → AllKnow n (spread p0 (drop 1 rs) (gather p0 rs))
    unfolding Paired every gather
    rest_knows [] ps zeroth = spreads n l p0 [] [] tt (λ h k lh out lk. let a = zeroth h lh out in let b = zeroth k lk refl in let e : h ≡ k = omega arith in rw e (knows_own [] k))
    rest_knows (r ∷ os) ps zeroth =
        spreads n l p0 os (gather p0 (r ∷ os)) ps.4
        (λ h k lh out lk.
        let g : Heard n l p0 (r ∷ os) k = gathers n l p0 (r ∷ os) ps k lk in
        let e = zeroth g.hut g.there g.outside in
        let At : ℕ → Type 0 = λ x. T (knows (gather p0 (r ∷ os)) x k) in
        let zero_knows : T (knows (gather p0 (r ∷ os)) 0 k) = subst At (sym e) g.knew in
        elim (cases_eq h r) [
          | inl same ↦
              let pr : 0 ≡ p0 r = zeroth (p0 r) ps.1 ps.3 in
              let both = knows_same (gather p0 os) (call r (p0 r)) h (p0 r) k (grind (arith, nat_tests)) (grind (arith, nat_tests)) in
              rw both (subst At pr zero_knows)
          | inr other ↦ let z = zeroth h lh (grind (arith, nat_tests)) in subst At z zero_knows
        ])

    rest_paired : (rs : List ℕ) → Paired n l p0 rs → Paired n l p0 (drop 1 rs)
    unfolding Paired
    rest_paired [] ps = tt
    rest_paired (r ∷ os) ps = ps.4

    without_square : Does n l None (plan_for n l None)
    without_square =
        let rs : List ℕ = row n l (eqb 0) in
        let pairs : Paired n l p0 rs = row_paired n l (eqb 0) in
        let knows-all : AllKnow n (plan_for n l None) = rest_knows rs pairs is_zero in
        record {
          apart = spread-among n l p0 (drop 1 rs) (gather p0 rs) (rest_paired rs pairs) (gather-among n l p0 rs pairs);
          on_lines = spread-along n l p0 j.both (drop 1 rs) (gather p0 rs) (rest_paired rs pairs) (gather-along n l p0 rs pairs);
          all_know = knows-all;
          with_others = λ ds h i k li lk. robust (plan_for n l None) ds h i k (knows-all i k li lk);
          count =
              λ two.
              let size = row-length n l (eqb 0) (reached n l None j q) (omega arith) in
              let one = many_one_hut 0 n in
              let out = length-spread p0 (drop 1 rs) (gather p0 rs) in
              let inward = length-gather p0 rs in
              let rest = length-drop 1 rs in
              grind (arith, nat_tests);
        }

pub does : (n : ℕ) (l : Lines) (o : Option Square) → Joins n l → Smallest n l o → Does n l o (plan_for n l o)
does n l None j q = without_square n l j q
does n l (Some s) j q = with_square n l j s q

pub plan-does : (n : ℕ) (l : Lines) → Joins n l → Does n l (smallest n l) (plan n l)
unfolding plan
plan-does n l j = does n l (smallest n l) j (smallest_is n l)
