use Rattle.std.proofs.Common.{rules}
use Rattle.sets.proofs.Sets.{huts_none, huts_next}
use Rattle.sets.proofs.HutsIterator.next.Goals as goal

pub returns-in_err-hut-clause-steps : goal.returns-in_err-hut-clause-steps
returns-in_err-hut-clause-steps c = let e = huts_none _ _ c.in_err-hut.ensures in rw c.from_residual.ensures (e, e)

pub returns-clause-steps : goal.returns-clause-steps
returns-clause-steps c = huts_next _ _ _ c.in_ok-hut.ensures.0 c.in_ok-hut.ensures.1

pub returns-clause-goes : goal.returns-clause-goes
returns-clause-goes c = let e = huts_next _ _ _ c.in_ok-hut.ensures.0 c.in_ok-hut.ensures.1 in search rules
