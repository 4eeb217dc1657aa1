use Rattle.std.proofs.Common.{rules, ◌&&◌}
use Rattle.sets.specs.Set.{in_set}
use Rattle.sets.proofs.Sets.{lowest_of, meets-from, in_both}
use Rattle.sets.proofs.HutSet.meets.Goals as goal

pub returns : goal.returns
returns c =
    let s = c.args.self.now in
    let t = c.args.other.now in
    rw c.is_some.ensures (meets-from s t c.args.from c.lowest_in.result (lowest_of (λ k. in_set s k && in_set t k) _ c.args.from c.lowest_in.result c.lowest_in.ensures (λ k w l p. in_both s t k w l (search rules))))
