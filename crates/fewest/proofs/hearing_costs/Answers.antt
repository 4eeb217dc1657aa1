use Rattle.fewest.proofs.Heard.{hearing_costs}
use Rattle.fewest.proofs.hearing_costs.Goals as goal

pub returns : goal.returns
returns c = hearing_costs
