use Rattle.calls.proofs.Known.{robust}
use Rattle.calls.proofs.others_do_no_harm.Goals as goal

pub returns : goal.returns
returns c = robust
