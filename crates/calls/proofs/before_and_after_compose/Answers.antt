use Rattle.calls.proofs.Known.{composes}
use Rattle.calls.proofs.before_and_after_compose.Goals as goal

pub returns : goal.returns
returns c = composes
