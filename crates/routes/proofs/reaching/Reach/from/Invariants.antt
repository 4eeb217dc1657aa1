use Rattle.std.proofs.Common.{◌-◌}
use Rattle.sets.specs.Set.{in_set}
use Rattle.routes.specs.Reach.{Reached}
use Rattle.routes.proofs.reaching.Reach.from.Given as goal

-- what is nearer than d lines is reached
abbrev pub invariant-loop-d : goal.invariant-loop-d
invariant-loop-d l = Reached l.rows (in_set l.fn.middle) (l.d - 1) l.reach
