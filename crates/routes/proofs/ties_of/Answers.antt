use Rattle.std.proofs.Common.{rules, ℕ, vec_items, ◌∙◌, map-id}
use Rattle.std.proofs.lemmas.Iterator.{items_from_drains, YieldsList-from_map_by, YieldsList-from_slice}
use Rattle.routes.specs.declared.Tied.{Tied}
use Rattle.routes.specs.Near.{IsTied}
use Rattle.routes.proofs.Partners.{all_given}
use Rattle.routes.proofs.ties_of.Goals as goal

pub returns : goal.returns
returns c =
    let ran = c.in_ok-collect.ensures.ran in
    let row = vec_items c.args.near.now.row in
    let e = items_from_drains ran.0 ran.1 (YieldsList-from_map_by {s = c.map.result} _ (λ (t : Tied). t.hut) (λ (x : ℕ). x) (YieldsList-from_slice row (search rules)) c.map.ensures.closure (λ x r q k. (search rules, search rules))) in
    rw ran.2.0 (record { same = e ∙ map-id row; each = all_given _ (IsTied c.args.rows.now c.args.near.now.distances.items) _ (λ x r q k. (search rules, search rules)) ran.0 c.map.result _ c.map.ensures.closure ran.1.1 })
