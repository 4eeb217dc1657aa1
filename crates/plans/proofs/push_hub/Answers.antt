use Rattle.std.proofs.Common.{◌-◌, [], ◌∷◌, vec_items, sym, append_assoc, append-nil, arith}
use Rattle.calls.specs.Number.{numbers}
use Rattle.plans.specs.Complete.{hub}
use Rattle.plans.proofs.Complete.{numbers_hub_more}
use Rattle.plans.proofs.push_hub.Goals as goal

pub loop-hut-init : goal.loop-hut-init
unfolding hub numbers
loop-hut-init c = (sym (append-nil (vec_items c.args.calls.now)), omega arith)

pub loop-hut-preserved : goal.loop-hut-preserved
loop-hut-preserved c =
    let hut = c.loop-hut.hut in
    let pushed = c.in_ok-extend_from_slice.ensures.items in
    let one_more = numbers_hub_more hut (omega arith) in
    let regrouped = append_assoc (vec_items c.args.calls.now) (numbers (hub (hut - 4))) (0 ∷ (hut ∷ [])) in
    (cc, omega arith)
