use Rattle.std.proofs.Common.{◌≡◌, ◌-◌, ◌≤◌, max, ◌++◌, vec_items}
use Rattle.calls.specs.Number.{numbers}
use Rattle.plans.specs.Complete.{hub}
use Rattle.plans.proofs.push_hub.Given as goal

abbrev pub invariant-loop-hut : goal.invariant-loop-hut
invariant-loop-hut l = (vec_items l.calls ≡ vec_items l.initial.calls ++ numbers (hub (l.hut - 4))) × (l.hut ≤ max 4 l.n)
