use Rattle.lines.proofs.Laws.{plan_does_it}
use Rattle.lines.proofs.plan_does_it.Goals as goal

pub returns : goal.returns
returns c = plan_does_it
