use Rattle.lines.proofs.Laws.{joined_by_way}
use Rattle.lines.proofs.joined_by_a_way.Goals as goal

pub returns : goal.returns
returns c = joined_by_way
