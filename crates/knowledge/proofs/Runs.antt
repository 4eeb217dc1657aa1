-- The calls of a list made one after the other: what has been reached after the first of them. Assumes nothing.
use Rattle.std.proofs.Common.{◌≡◌, ℕ, ◌+◌, ◌*◌, ◌%◌, ◌<◌, ◌≤◌, T, List, [], ◌∷◌, length, get_or, take, drop, Option, None, Some, refl, arith, below_more}
use Rattle.std.proofs.lemmas.List.{length-drop, take_all, drop-drop}
use Rattle.std.proofs.lemmas.Bool.Decides.{nat_tests}
use Rattle.calls.specs.Call.{Call, call, AllKnow}
use Rattle.calls.specs.Number.{onto, calls}
use Rattle.calls.proofs.Numbers.{calls_more}
use Rattle.knowledge.specs.Row.{Stands, Lack, Behind}
use Rattle.knowledge.specs.Outcome.{below, CompleteAfter, LowestLack}
use Rattle.sets.specs.declared.HutSet.{HutSet}
use Rattle.knowledge.proofs.Rows.{behind_onward}

-- the huts of the calls after the next are there
pub below_rest : (n : ℕ) (left : List ℕ) → T (below n left) → T (below n (drop 2 left))
below_rest n [] t = t
below_rest n (a ∷ []) t = tt
below_rest n (a ∷ e ∷ left) t = grind (arith, nat_tests)

-- the first calls of xs are made, and the numbers left are still to come; r is the lowest hut that lacks any, with the lowest that it lacks
pub record Reached (xs left : List ℕ) (rows : List HutSet) (made : ℕ) (r : Option (ℕ × ℕ)) : Type 0 where
  pub stands : Stands (length rows) rows (calls (take (2 * made) xs))
  pub rest : drop (2 * made) xs ≡ left
  pub size : 2 * made + length left ≡ length xs
  pub there : T (below (length rows) left)
  pub behind : Behind rows 0 r
  pub not_yet : (j : ℕ) → j < made → AllKnow (length rows) (calls (take (2 * j) xs)) → ⊥

pub reached_none : (xs : List ℕ) (rows : List HutSet) (r : Option (ℕ × ℕ)) → Stands (length rows) rows [] → T (below (length rows) xs) → Behind rows 0 r → Reached xs xs rows 0 r
unfolding onto
reached_none xs rows r stands there behind =
    record { stands = stands; rest = refl; size = omega arith; there = there; behind = behind; not_yet = λ j l. absurd (omega arith) }

-- while a hut lacks some other, not all know everything
pub not_all : (rows : List HutSet) (cs : List Call) (i k : ℕ) → Stands (length rows) rows cs → Lack rows 0 i k → AllKnow (length rows) cs → ⊥
not_all rows cs i k stands lack all =
    let b = stands.bits i k lack.hut in
    let t = all i k lack.hut lack.other in
    let f = lack.lowest.lacks lack.other in
    grind (arith, nat_tests)

pub reached_more :
    (xs left : List ℕ) (rows rows' : List HutSet) (made i k : ℕ) (r : Option (ℕ × ℕ)) → Reached xs left rows made (Some (i, k)) → 1 < length left → length rows' ≡ length rows →
    Stands (length rows) rows' (call (get_or left 0 0) (get_or left 1 0) ∷ calls (take (2 * made) xs)) → Behind rows' i r → Reached xs (drop 2 left) rows' (made + 1) r
reached_more xs left rows rows' made i k r at two same stands behind =
    let before : Stands (length rows') rows (calls (take (2 * made) xs)) = rw same at.stands in
    let after : Stands (length rows') rows' (call (get_or left 0 0) (get_or left 1 0) ∷ calls (take (2 * made) xs)) = rw same stands in
    record {
      stands = rw (calls_more xs left made at.rest two) after;
      rest =
          let s : 2 * (made + 1) ≡ 2 * made + 2 = omega arith in
          rw (s, ← drop-drop 2 (2 * made) xs, at.rest);
      size = rw length-drop (omega (arith, at.size));
      there = rw same (below_rest (length rows) left at.there);
      behind = behind_onward rows rows' (calls (take (2 * made) xs)) (call (get_or left 0 0) (get_or left 1 0)) i k r before after at.behind behind;
      not_yet =
          rw same
          (below_more (λ j. AllKnow (length rows) (calls (take (2 * j) xs)) → ⊥) made at.not_yet (not_all rows (calls (take (2 * made) xs)) i k at.stands at.behind));
    }

-- where no hut lacks any, the calls that are made are complete, and no fewer
pub complete_from_reached : (xs left : List ℕ) (rows : List HutSet) (made : ℕ) → Reached xs left rows made None → CompleteAfter (length rows) xs made
complete_from_reached xs left rows made at =
    record {
      there = omega (arith, at.size);
      all = λ i k li lk. rw (at.stands.bits i k li) at (at.behind i (omega arith) li k lk);
      first = at.not_yet;
    }

-- where no call is left, the lowest hut that lacks any lacks it after all calls
pub lack_from_reached :
    (xs left : List ℕ) (rows : List HutSet) (made i k : ℕ) → Reached xs left rows made (Some (i, k)) → length left ≤ 1 → length xs % 2 ≡ 0 → LowestLack (length rows) xs i k
lack_from_reached xs left rows made i k at short even =
    let all : take (2 * made) xs ≡ xs = take_all (2 * made) xs (omega (arith, at.size)) in
    let stands : Stands (length rows) rows (calls xs) = rw all at at.stands in
    let lack : Lack rows 0 i k = at.behind in
    record {
      hut = lack.hut;
      other = lack.other;
      lacks = rw (stands.bits i k lack.hut) at (lack.lowest.lacks lack.other);
      huts_before = λ j m lj lm. rw (stands.bits j m (omega (arith, lack.hut))) at (lack.before j (omega arith) lj m lm);
      others_before = λ m lm. rw (stands.bits i m lack.hut) at (lack.lowest.before m lm);
    }
