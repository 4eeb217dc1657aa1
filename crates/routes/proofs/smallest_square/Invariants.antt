use Rattle.std.proofs.Common.{ℕ, ◌<◌}
use Rattle.sets.specs.Set.{huts_left}
use Rattle.routes.proofs.Squares.{None1, LeftB, LeftC, LeftD}
use Rattle.routes.proofs.smallest_square.Given as goal

-- the huts before this one, or before those that are left, make no square with those of the loops around
abbrev pub invariant-loop-d : goal.invariant-loop-d
invariant-loop-d l = LeftD l.rows l.a l.b l.c (huts_left l.d-iterator)

abbrev pub invariant-loop-c : goal.invariant-loop-c
invariant-loop-c l = LeftC l.rows l.a l.b (huts_left l.c-iterator)

abbrev pub invariant-loop-b : goal.invariant-loop-b
invariant-loop-b l = LeftB l.rows l.a (huts_left l.b-iterator)

abbrev pub invariant-loop-a : goal.invariant-loop-a
invariant-loop-a l = (w : ℕ) → w < l.a → None1 l.rows w
