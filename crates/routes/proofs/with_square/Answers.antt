use Rattle.std.proofs.Common.{◌≡◌, ◌-◌, Some, vec_items, refl, ◌∙◌}
use Rattle.std.proofs.lemmas.Result.{MatchResult-weaker}
use Rattle.lines.specs.Plan.{middle}
use Rattle.rows.specs.Rows.{huts}
use Rattle.routes.specs.Pairs.{round_written}
use Rattle.routes.specs.Reach.{Reached}
use Rattle.routes.proofs.Planned.{reached_by, reached_there, round-plan}
use Rattle.routes.proofs.with_square.Goals as goal

pub ties_of-requires : goal.ties_of-requires
ties_of-requires c =
    let at = c.in_ok-near.ensures in
    record { sizes = at.size; there = reached_there c.args.rows.now _ (huts c.args.rows.now - 1) c.in_ok-near.near at }

pub returns : goal.returns
returns c =
    let at : Reached c.args.rows.now (middle (Some c.args.square)) (huts c.args.rows.now - 1) c.in_ok-near.near =
    reached_by c.args.rows.now c.corners.result (middle (Some c.args.square)) (huts c.args.rows.now - 1) c.in_ok-near.near c.corners.ensures c.in_ok-near.ensures
    in
    MatchResult-weaker c.round_calls.result c.round_calls.ensures
    (λ v e.
    let written : vec_items v ≡ round_written c.args.square (vec_items c.in_ok-ties.ties) = rw c.deref.ensures.value at e in
    written ∙ round-plan c.args.rows.now (Some c.args.square) c.in_ok-near.near (vec_items c.in_ok-ties.ties) at c.requires.joins c.in_ok-ties.ensures c.args.square refl)
    (λ f e. e)
