use Rattle.std.proofs.Common.{rules, get_or}
use lib.Bits.{bit_or}
use Rattle.sets.proofs.Sets.{in_or, given_at}
use Rattle.sets.proofs.HutSet.union.Goals as goal

pub returns : goal.returns
returns c =
    let s = c.args.self.now in
    let t = c.args.other.now in
    in_or s t _ (given_at _ c.from_fn.result 0 16 (λ i. bit_or (get_or s.words i 0) (get_or t.words i 0)) c.from_fn.ensures.items.each (λ j y q p. search rules))
