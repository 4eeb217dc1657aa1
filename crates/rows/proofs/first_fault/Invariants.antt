use Rattle.std.proofs.Common.{◌≡◌, length}
use Rattle.lines.specs.Line.{wrong_after, wrong}
use Rattle.rows.proofs.first_fault.Given as goal

-- what is left decides
abbrev pub invariant-loop-left : goal.invariant-loop-left
invariant-loop-left l = wrong_after l.n l.before.0 l.before.1 l.left ≡ wrong l.n l.lines

abbrev pub decreases-loop-left : goal.decreases-loop-left
decreases-loop-left l = length l.left
