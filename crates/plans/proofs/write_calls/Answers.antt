use Rattle.std.proofs.Common.{refl, arith}
use Rattle.std.proofs.lemmas.Bool.{ltb-false}
use Rattle.plans.proofs.Texts.{printed_more}
use Rattle.plans.proofs.write_calls.Goals as goal

pub loop-left-preserved : goal.loop-left-preserved
loop-left-preserved g c =
    printed_more g.W.Write.write_str_gives _ _ c.loop-left.left.now _ _ (omega (arith, ltb-false)) c.loop-left.invariant (λ plain. c.in_ok-writeln.ensures.writes plain refl)
