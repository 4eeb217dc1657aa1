use Rattle.examples.proofs.Examples.{table_holds}
use Rattle.examples.proofs.examples_hold.Goals as goal

pub returns : goal.returns
returns c = table_holds
