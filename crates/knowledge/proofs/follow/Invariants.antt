use Rattle.std.proofs.Common.{length}
use Rattle.knowledge.proofs.Runs.{Reached}
use Rattle.knowledge.proofs.follow.Given as goal

abbrev pub invariant-loop-lacking : goal.invariant-loop-lacking
invariant-loop-lacking l = Reached l.calls l.left l.rows l.made l.lacking

abbrev pub decreases-loop-lacking : goal.decreases-loop-lacking
decreases-loop-lacking l = length l.left
