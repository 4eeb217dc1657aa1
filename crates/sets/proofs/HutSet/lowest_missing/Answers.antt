use Rattle.std.proofs.Common.{rules, not, refl}
use Rattle.sets.specs.Set.{in_set}
use Rattle.sets.proofs.Sets.{lowest_of, lowest_lack, lowest_below, out_of_word}
use Rattle.sets.proofs.HutSet.lowest_missing.Goals as goal

pub returns : goal.returns
returns c =
    let s = c.args.self.now in
    let low = lowest_lack s c.lowest_in.result (lowest_of (λ k. not (in_set s k)) _ 0 c.lowest_in.result c.lowest_in.ensures (λ k w l p. out_of_word s k w l (search rules) (search rules))) in
    rw c.then_some.ensures (lowest_below s c.args.n c.unwrap_or-hut.result (rw c.unwrap_or-hut.ensures low) _ refl)
