-- What the parts of the search give together: the prescribed plan. Assumes nothing.
use Rattle.std.proofs.Common.{◌≡◌, ℕ, ◌-◌, ◌<◌, ◌≤◌, Bool, true, false, not, eqb, List, map, length, Some, None, vec_items, Option, sym, refl, ap, ◌∙◌, subst, inl, inr, arith}
use Rattle.std.specs.List.{All}
use Rattle.std.proofs.lemmas.Bool.{cases_eq, cases_Bool}
use Rattle.std.proofs.lemmas.Bool.Decides.{nat_tests}
use Rattle.calls.specs.Number.{numbers}
use Rattle.plans.specs.declared.Plan.{Plan}
use Rattle.plans.specs.declared.Square.{Square}
use Rattle.sets.specs.declared.HutSet.{HutSet}
use Rattle.sets.specs.Set.{in_set, Lowest, row_of}
use Rattle.lines.specs.Line.{Lines, line, wrong}
use Rattle.lines.specs.Way.{distance, joined}
use Rattle.lines.specs.Row.{partner}
use Rattle.lines.specs.Square.{square, SmallestBy, Smallest, smallest}
use Rattle.lines.specs.Plan.{middle, plan_for, plan, Joins, Does}
use Rattle.lines.proofs.Ways.{within-distance}
use Rattle.lines.proofs.Lines.{line-both, line-between}
use Rattle.lines.proofs.Lowest.{lowest_at}
use Rattle.lines.proofs.Main.{plan-does}
use Rattle.lines.proofs.Squares.{smallest_same, smallest_is, smallest_only}
use Rattle.rows.specs.declared.table.Rows.{Rows}
use Rattle.rows.specs.Rows.{huts, tells, told}
use Rattle.routes.specs.declared.Tied.{Tied}
use Rattle.routes.specs.declared.reaching.Reach.{Reach}
use Rattle.routes.specs.Answer.{alone, Planned}
use Rattle.routes.specs.Seen.{seen_in}
use Rattle.routes.specs.Near.{Partners}
use Rattle.routes.specs.Pairs.{round_written, straight_written}
use Rattle.routes.specs.Reach.{Reached}
use Rattle.routes.proofs.Partners.{row_there, partners_are}
use Rattle.routes.proofs.Pairs.{tied, round_written_lem, straight_written_lem}

-- the middle as a set is the middle
pub reached_by : (rows : Rows) (s : HutSet) (mid : ℕ → Bool) (e : ℕ) (x : Reach) → ((k : ℕ) → in_set s k ≡ mid k) → Reached rows (in_set s) e x → Reached rows mid e x
reached_by rows s mid e x same at =
    let all : in_set s ≡ mid = λ d k. same k d in
    subst (λ (m : ℕ → Bool). Reached rows m e x) all at

-- the huts of the row have rows
pub reached_there : (rows : Rows) (mid : ℕ → Bool) (e : ℕ) (x : Reach) → Reached rows mid e x → All (λ i. i < huts rows) (vec_items x.row)
reached_there rows mid e x at = rw at.listed (row_there rows mid e)

module _ (rows : Rows) (o : Option Square) (x : Reach) (ts : List Tied) (at : Reached rows (middle o) (huts rows - 1) x)
    (joins : (i : ℕ) → i < huts rows → distance (huts rows) (told rows) (middle o) i < huts rows) (found : Partners rows (vec_items x.distances) (vec_items x.row) ts) where
  partners_mapped : ts ≡ map (tied (partner (huts rows) (told rows) (middle o))) (vec_items x.row)
  partners_mapped = partners_are rows (middle o) x ts at joins found

  pub round-plan : (q : Square) → o ≡ Some q → round_written q ts ≡ numbers (plan_for (huts rows) (told rows) (Some q))
  round-plan q e =
      ap (λ (xs : List Tied). round_written q xs) partners_mapped ∙ round_written_lem (partner (huts rows) (told rows) (middle o)) (vec_items x.row) q ∙ rw (at.listed, e)

  pub straight_plan : o ≡ None → straight_written ts ≡ numbers (plan_for (huts rows) (told rows) None)
  straight_plan e =
      ap (λ (xs : List Tied). straight_written xs) partners_mapped ∙ straight_written_lem (partner (huts rows) (told rows) (middle o)) (vec_items x.row) ∙ rw (at.listed, e)

-- what is seen in the rows are the squares of the lines that they tell
seen-square : (rows : List HutSet) → ((i k : ℕ) → tells rows i k ≡ tells rows k i) → ((i : ℕ) → tells rows i i ≡ false) → (a b c d : ℕ) → a < length rows → b < length rows → c < length rows → d < length rows → seen_in rows a b c d ≡ square (tells rows) a b c d
seen-square rows both apart a b c d la lb lc ld =
    let da = both d a in
    let bb = apart b in
    let cc' = apart c in
    elim (cases_eq b c) [
      | inl same ↦ let s : in_set (row_of rows b) c ≡ in_set (row_of rows b) b = rw same in grind (arith, nat_tests)
      | inr differ ↦
          elim (cases_eq c d) [
            | inl same ↦ let s : in_set (row_of rows c) d ≡ in_set (row_of rows c) c = rw same in grind (arith, nat_tests)
            | inr other ↦ grind (arith, nat_tests)
          ]
    ]

-- so the smallest that is seen, or none, is that of those lines
pub smallest-told : (rows : List HutSet) (o : Option Square) → ((i k : ℕ) → tells rows i k ≡ tells rows k i) → ((i : ℕ) → tells rows i i ≡ false) → SmallestBy (length rows) (seen_in rows) o → Smallest (length rows) (tells rows) o
smallest-told rows o both apart h = smallest_same (length rows) (seen_in rows) (square (tells rows)) (seen-square rows both apart) o h

-- all huts are reached from hut 0 where none is missing
pub all-joined : (rows : Rows) (x : Reach) (r : ℕ) → Reached rows (eqb 0) (huts rows - 1) x → Lowest (huts rows) x.huts r → huts rows ≤ r → (i : ℕ) → i < huts rows → joined (huts rows) (told rows) i ≡ true
all-joined rows x r at low lr i li =
    let pos = rows.some in
    let t = low.before i (omega arith) in
    let is = at.set i in
    let w = within-distance (huts rows) (told rows) (eqb 0) (huts rows - 1) i (omega arith) in
    grind (arith, nat_tests)

-- the lowest hut that is not reached from hut 0 is the lowest that is not joined to it
pub alone_is : (rows : Rows) (x : Reach) (r : ℕ) → Reached rows (eqb 0) (huts rows - 1) x → Lowest (huts rows) x.huts r → alone (huts rows) (told rows) ≡ r
alone_is rows x r at low =
    let pos = rows.some in
    let joined_in : (i : ℕ) → i < huts rows → joined (huts rows) (told rows) i ≡ in_set x.huts i =
    λ i li.
    let is = at.set i in
    let w = within-distance (huts rows) (told rows) (eqb 0) (huts rows - 1) i (omega arith) in
    grind (arith, nat_tests)
    in
    let bound = low.within in
    lowest_at (λ i. not (joined (huts rows) (told rows) i)) (huts rows) r
    (record {
      bound = low.within;
      passes = λ l. let f = low.lacks l in let j = joined_in r l in grind arith;
      sooner = λ k l. let t = low.before k l in let j = joined_in k (omega arith) in grind (arith, nat_tests);
    })

-- whoever has the calls for the smallest square, or for none, has the plan
pub planned : (n : ℕ) (l : Lines) (p : Plan) → Joins n l → Smallest n l p.square → vec_items p.calls ≡ numbers (plan_for n l p.square) → Planned n l p
unfolding plan
planned n l p j q listed =
    let e : smallest n l ≡ p.square = smallest_only n l (smallest n l) p.square (smallest_is n l) q in
    record {
      listed = listed ∙ ap (λ o. numbers (plan_for n l o)) (sym e);
      square = q;
      does = subst (λ o. Does n l o (plan n l)) e (plan-does n l j);
    }

-- rows that tell the lines of a list
pub told-both : (rows : Rows) (xs : List ℕ) → told rows ≡ line xs → (i k : ℕ) → told rows i k ≡ told rows k i
told-both rows xs e i k = rw e (line-both xs i k)

pub told-apart : (rows : Rows) (xs : List ℕ) (n : ℕ) → told rows ≡ line xs → wrong n xs ≡ None → (i : ℕ) → told rows i i ≡ false
told-apart rows xs n e right i =
    rw e (elim (cases_Bool (line xs i i)) [ inl t ↦ absurd ((line-between n 0 0 xs right i i t).2 refl) | inr f ↦ f ])
