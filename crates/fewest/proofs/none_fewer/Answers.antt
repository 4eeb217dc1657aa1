use Rattle.fewest.proofs.Fewest.{none_fewer}
use Rattle.fewest.proofs.none_fewer.Goals as goal

pub returns : goal.returns
returns c = none_fewer
