use Rattle.knowledge.proofs.Single.{one_outcome}
use Rattle.knowledge.proofs.one_outcome.Goals as goal

pub returns : goal.returns
returns c = one_outcome
