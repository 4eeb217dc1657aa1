use Rattle.std.proofs.Common.{◌≡◌, ℕ, ◌+◌, ◌-◌, refl, arith}
use Rattle.sets.specs.Set.{in_set}
use Rattle.rows.specs.Rows.{huts}
use Rattle.routes.proofs.Reaches.{none_missing, reached_none, reached_more, reached-all}
use Rattle.routes.proofs.reaching.Reach.from.Goals.{else-loop-d-test, then-loop-d-test+then-is_none}
use Rattle.routes.proofs.reaching.Reach.from.Goals as goal

pub loop-d-init : goal.loop-d-init
loop-d-init c =
    let n : c.len-n.result ≡ huts c.args.rows.now = let size = c.args.rows.now.of.ok.0 in let e = c.len-n.ensures in omega arith in
    reached_none c.args.rows.now (in_set c.args.middle) _ (λ k. refl) c.requires.there (rw n at (c.in_ok-vec.ensures.items_if_clones_equal (λ y e. e))) c.new.ensures.items

pub loop-d-preserved : goal.loop-d-preserved
loop-d-preserved c =
    let d : ℕ = c.loop-d.d in
    let low = c.loop-d.auto.d in
    let e : (d + 1) - 1 ≡ d = omega arith in
    rw e (reached_more c.args.rows.now (in_set c.args.middle) (d - 1) d c.loop-d.reach c.ring.new.self (omega arith) (omega arith) c.loop-d.invariant c.in_ok-ring.ensures)

pub returns : goal.returns
returns c =
    elim c.loop-d-test.branch [
      | else-loop-d-test w ↦
          let some = c.args.rows.now.some in
          let end = w.loop-d-test.false in
          let last : c.loop-d.d - 1 ≡ huts c.args.rows.now - 1 = let kept = c.loop-d.auto.d-end (omega arith) in omega arith in
          rw last at c.loop-d.invariant
      | then-loop-d-test+then-is_none w ↦
          let n : c.len-n.result ≡ huts c.args.rows.now = let size = c.args.rows.now.of.ok.0 in let e = c.len-n.ensures in omega arith in
          let low = c.loop-d.auto.d in
          let less = w.loop-d-test.true in
          reached-all c.args.rows.now (in_set c.args.middle) (c.loop-d.d - 1) c.loop-d.reach (omega arith) (rw n at (none_missing c.len-n.result c.loop-d.reach.huts w.lowest_missing.result w.if-is_none.ensures w.lowest_missing.ensures)) c.loop-d.invariant
    ]
