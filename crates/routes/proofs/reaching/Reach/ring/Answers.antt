use Rattle.std.proofs.Common.{sym, refl, ◌∙◌, arith}
use Rattle.routes.proofs.Rings.{ringed_none, ringed_skip, ringed_more}
use Rattle.routes.proofs.reaching.Reach.ring.Goals.{then-is_fresh+in_ok-push, else-is_fresh}
use Rattle.routes.proofs.reaching.Reach.ring.Goals as goal

pub loop-hut-init : goal.loop-hut-init
loop-hut-init c = ringed_none c.args.rows.now 0 c.args.d c.args.self.now

pub loop-hut-preserved : goal.loop-hut-preserved
loop-hut-preserved c =
    elim c.if-is_fresh.branch [
      | then-is_fresh+in_ok-push w ↦
          rw w.self-is
          (ringed_more c.args.rows.now c.loop-hut.hut c.args.d c.args.self.now c.loop-hut.self _ (sym c.is_fresh.ensures ∙ w.if-is_fresh.true) (let few = c.args.rows.now.few in omega arith) (let few = c.args.rows.now.few in omega arith) w.insert.ensures refl w.in_ok-push.ensures.items c.loop-hut.invariant)
      | else-is_fresh w ↦ rw w.self-is (ringed_skip c.args.rows.now c.loop-hut.hut c.args.d c.args.self.now c.loop-hut.self (sym c.is_fresh.ensures ∙ w.if-is_fresh.false) c.loop-hut.invariant)
    ]
