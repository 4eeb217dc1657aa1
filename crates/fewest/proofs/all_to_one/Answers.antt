use Rattle.fewest.proofs.Learned.{all_to_one}
use Rattle.fewest.proofs.all_to_one.Goals as goal

pub returns : goal.returns
returns c = all_to_one
