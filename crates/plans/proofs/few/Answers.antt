use Rattle.std.proofs.Common.{arith}
use Rattle.calls.specs.Number.{numbers}
use Rattle.plans.specs.Complete.{plan}
use Rattle.plans.proofs.Complete.{numbers_none}
use Rattle.plans.proofs.few.Goals as goal

pub returns-in-2 : goal.returns-in-2
unfolding plan numbers
returns-in-2 c = rw c.in-2.is

pub returns-in-3 : goal.returns-in-3
unfolding plan numbers
returns-in-3 c = rw c.in-3.is

pub returns-in_default : goal.returns-in_default
returns-in_default c = numbers_none c.args.n (omega arith)
