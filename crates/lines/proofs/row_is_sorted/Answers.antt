use Rattle.lines.proofs.Laws.{row-sorted}
use Rattle.lines.proofs.row_is_sorted.Goals as goal

pub returns : goal.returns
returns c = row-sorted
