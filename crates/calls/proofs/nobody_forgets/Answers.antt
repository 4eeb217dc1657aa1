use Rattle.calls.proofs.Known.{onward}
use Rattle.calls.proofs.nobody_forgets.Goals as goal

pub returns : goal.returns
returns c = onward
