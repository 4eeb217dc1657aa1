use Rattle.std.proofs.Common.{◌≡◌, length}
use Rattle.rows.specs.Rows.{huts, told}
use Rattle.checks.specs.Call.{wrong_call}
use Rattle.checks.proofs.first_off.Given as goal

-- what is left decides
abbrev pub invariant-loop-left : goal.invariant-loop-left
invariant-loop-left l = wrong_call (huts l.rows) (told l.rows) l.left ≡ wrong_call (huts l.rows) (told l.rows) l.calls

abbrev pub decreases-loop-left : goal.decreases-loop-left
decreases-loop-left l = length l.left
