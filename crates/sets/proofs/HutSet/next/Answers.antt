use Rattle.std.proofs.Common.{rules}
use Rattle.sets.specs.Set.{in_set}
use Rattle.sets.proofs.Sets.{lowest_of, next_hut, in_word}
use Rattle.sets.proofs.HutSet.next.Goals as goal

pub returns : goal.returns
returns c =
    let s = c.args.self.now in
    next_hut s c.args.from c.lowest_in.result (lowest_of (in_set s) _ c.args.from c.lowest_in.result c.lowest_in.ensures (λ k w l p. in_word s k w l (search rules)))
