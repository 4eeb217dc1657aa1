use Rattle.fewest.proofs.Fewest.{as_many_as_huts}
use Rattle.fewest.proofs.as_many_as_huts.Goals as goal

pub returns : goal.returns
returns c = as_many_as_huts
