use Rattle.std.proofs.Common.{vec_items}
use Rattle.texts.specs.Reading.{listing}
use Rattle.texts.proofs.Pairs.{Gathering}
use Rattle.texts.proofs.read.Given as goal

abbrev pub invariant-loop-k : goal.invariant-loop-k
invariant-loop-k l = Gathering (goal.iterator-loop-k).next_gives (listing l.text) l.huts l.k-iterator l.gathered (vec_items l.pairs)
