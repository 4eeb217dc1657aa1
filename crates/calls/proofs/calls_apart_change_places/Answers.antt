use Rattle.calls.proofs.Known.{swap}
use Rattle.calls.proofs.calls_apart_change_places.Goals as goal

pub returns : goal.returns
returns c = swap
