-- The worked examples hold: the definitions compute them. Assumes nothing.
use mathlib.Core.Path.{refl}
use Rattle.calls.specs.Number.{numbers}
use Rattle.plans.specs.Complete.{hub, plan}
use Rattle.plans.proofs.Complete.{all_know}
use Rattle.examples.specs.Example.{TableHolds}

pub table_holds : TableHolds
unfolding plan hub numbers
table_holds = ((refl, refl, all_know 4), ((refl, refl, all_know 5), ((refl, refl, all_know 6), tt)))
