use Rattle.calls.proofs.Numbers.{written}
use Rattle.calls.proofs.numbers_stand_for_calls.Goals as goal

pub returns : goal.returns
returns c = written
