use Rattle.lines.proofs.Laws.{distance_shortest}
use Rattle.lines.proofs.distance_is_shortest.Goals as goal

pub returns : goal.returns
returns c = distance_shortest
