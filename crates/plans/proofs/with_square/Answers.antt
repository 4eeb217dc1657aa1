use Rattle.plans.proofs.Complete.{planned}
use Rattle.plans.proofs.with_square.Goals as goal

pub returns : goal.returns
returns c = planned c.args.n _ c.requires c.smallest_square.ensures
