use Rattle.fewest.proofs.Learned.{one_to_all}
use Rattle.fewest.proofs.one_to_all.Goals as goal

pub returns : goal.returns
returns c = one_to_all
