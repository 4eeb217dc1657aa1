use Rattle.std.proofs.Common.{arith}
use Rattle.std.proofs.lemmas.Bool.Decides.{nat_tests}
use Rattle.sets.specs.Set.{has, in_set}
use Rattle.sets.proofs.HutSet.has.Goals as goal

pub returns-then-hut-lt-HUTS : goal.returns-then-hut-lt-HUTS
unfolding in_set has
returns-then-hut-lt-HUTS c = grind (arith, nat_tests)

pub returns-else-hut-lt-HUTS : goal.returns-else-hut-lt-HUTS
unfolding in_set
returns-else-hut-lt-HUTS c = grind (arith, nat_tests)
