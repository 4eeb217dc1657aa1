use Rattle.routes.specs.Ring.{Ringed}
use Rattle.routes.proofs.reaching.Reach.ring.Given as goal

-- the huts below this one are looked at
abbrev pub invariant-loop-hut : goal.invariant-loop-hut
invariant-loop-hut l = Ringed l.rows l.hut l.d l.initial.self l.self
