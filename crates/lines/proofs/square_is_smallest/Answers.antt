use Rattle.lines.proofs.Laws.{smallest-square}
use Rattle.lines.proofs.square_is_smallest.Goals as goal

pub returns : goal.returns
returns c = smallest-square
