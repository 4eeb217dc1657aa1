use Rattle.sets.proofs.Sets.{has_none, in_none}
use Rattle.sets.proofs.HutSet.none.Goals as goal

pub returns : goal.returns
returns c = in_none _ (has_none 16)
