use Rattle.lines.proofs.Laws.{partner_nearest}
use Rattle.lines.proofs.partner_is_nearest.Goals as goal

pub returns : goal.returns
returns c = partner_nearest
