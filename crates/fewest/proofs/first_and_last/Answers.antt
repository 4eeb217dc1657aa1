use Rattle.fewest.proofs.Together.{first_and_last}
use Rattle.fewest.proofs.first_and_last.Goals as goal

pub returns : goal.returns
returns c = first_and_last
