-- Where lines join all huts to hut 0, they join them to any middle. Assumes nothing.
use Rattle.std.proofs.Common.{◌≡◌, ℕ, suc, ◌<◌, Bool, true, eqb, sym, ◌∙◌, arith}
use Rattle.std.proofs.lemmas.Bool.Decides.{nat_tests}
use Rattle.lines.specs.Line.{Lines}
use Rattle.lines.specs.Way.{within, distance, Way, here, over}
use Rattle.lines.proofs.Ways.{within_over, within_way, distance-below, distance-reached}

module _ (n : ℕ) (l : Lines) (mid : ℕ → Bool) (both : (i k : ℕ) → l i k ≡ l k i) where
  -- a way leads from hut i to the middle
  abbrev Reached : ℕ → Type 0
  Reached i = (d : ℕ) × (within n l mid d i ≡ true)

  next : (i k : ℕ) → i < n → l i k ≡ true → Reached i → Reached k
  next i k li line r = (suc r.0, within_over n l mid r.0 k i (sym (both i k) ∙ line) li r.1)

  -- the other end of a way from a hut that is reached is reached
  forth : {d i : ℕ} → i < n → Way n l (eqb 0) d i → Reached i → Reached 0
  forth li (here {i} m) r = let e : i ≡ 0 = grind (arith, nat_tests) in rw e at r
  forth li (over {d} {i} {k} line lk w) r = forth lk w (next i k li line r)

  -- and so is where a way to a hut that is reached begins
  back : {d i : ℕ} → Way n l (eqb 0) d i → Reached 0 → Reached i
  back (here {i} m) r = let e : 0 ≡ i = grind (arith, nat_tests) in rw e at r
  back (over {d} {i} {k} line lk w) r = let b = back w r in (suc b.0, within_over n l mid b.0 i k line lk b.1)

  pub all-reached :
      ((i : ℕ) → i < n → distance n l (eqb 0) i < n) → (m : ℕ) → m < n → mid m ≡ true → (i : ℕ) → i < n → distance n l mid i < n
  unfolding within
  all-reached joins m lm t i li =
      let from = within_way n l (eqb 0) (distance n l (eqb 0) m) m (distance-reached n l (eqb 0) m (joins m lm)) in
      let zero_reached : Reached 0 = forth lm from.2 (0, t) in
      let to = within_way n l (eqb 0) (distance n l (eqb 0) i) i (distance-reached n l (eqb 0) i (joins i li)) in
      let r = back to.2 zero_reached in
      distance-below n l mid m lm t r.0 i li r.1
