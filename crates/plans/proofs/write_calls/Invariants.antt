use Rattle.std.proofs.Common.{length}
use Rattle.plans.proofs.Texts.{Printed}
use Rattle.plans.proofs.write_calls.Given as goal

abbrev pub invariant-loop-left : goal.invariant-loop-left
invariant-loop-left g l = Printed g.W.Write.write_str_gives l.initial.f l.initial.left l.left l.f

abbrev pub decreases-loop-left : goal.decreases-loop-left
decreases-loop-left g l = length l.left
