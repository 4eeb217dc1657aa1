use Rattle.std.proofs.Common.{◌∙◌, rules}
use Rattle.std.proofs.lemmas.Iterator.{YieldsList-from_slice}
use Rattle.std.proofs.lemmas.Iterator.Adapters.{items_from_extend, YieldsList-from_rev_slice, YieldsList-from_flat_map}
use Rattle.routes.specs.Pairs.{call_in, call_out}
use Rattle.routes.proofs.Yielded.{from_array}
use Rattle.routes.proofs.in_and_out.Goals as goal

pub returns : goal.returns
returns c =
    let all_in =
    items_from_extend c.extend.result c.extend.ensures.ran
    (YieldsList-from_flat_map _ _ _ (λ x. x) call_in _
    (λ x u q k. (search rules, λ j b. from_array j _ (b.0 ∙ search rules)))
    (YieldsList-from_rev_slice c.args.ties.now cc)
    c.flat_map.ensures.closure c.flat_map.ensures.front c.flat_map.ensures.back c.flat_map.ensures.done)
    in
    let all_out =
    items_from_extend c.extend-2.result c.extend-2.ensures.ran
    (YieldsList-from_flat_map _ _ _ (λ x. x) call_out _
    (λ x u q k. (search rules, λ j b. from_array j _ (b.0 ∙ search rules)))
    (YieldsList-from_slice c.args.others.now cc)
    c.flat_map-2.ensures.closure c.flat_map-2.ensures.front c.flat_map-2.ensures.back c.flat_map-2.ensures.done)
    in
    let first = rw c.in_ok-extend.was at all_in in
    let last = rw c.in_ok-extend-2.was at all_out in
    rw (last.0, c.in_ok-extend_from_slice.ensures.items, first.0, c.new-calls.ensures.items)
