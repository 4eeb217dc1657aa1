use Rattle.promises.proofs.Keeping.{kept}
use Rattle.promises.proofs.plans_and_checks_keep_it.Goals as goal

pub returns : goal.returns
returns c = kept
