use Rattle.std.proofs.Common.{◌≡◌, rules, length, Some, None}
use Rattle.sets.specs.Set.{row_of, LowestMissing}
use Rattle.knowledge.proofs.Finds.{found_in_range}
use Rattle.knowledge.proofs.Rows.{behind_found}
use Rattle.knowledge.proofs.first_lacking.Goals as goal

pub returns : goal.returns
returns c =
    let rows = c.args.rows.now in
    behind_found rows c.args.from c.find_map.result
    (
    found_in_range _ _ c.find_map.result (λ i p. (p.0 ≡ i) × LowestMissing (length rows) (row_of rows i) (Some p.1)) (λ i. LowestMissing (length rows) (row_of rows i) None) c.find_map.ensures.runs
    (λ a r q k. search rules)
    (λ x y k. search rules)
    (λ x k. search rules)
    )
