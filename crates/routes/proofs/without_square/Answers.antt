use Rattle.std.proofs.Common.{◌≡◌, ◌-◌, eqb, None, vec_items, refl, ◌∙◌}
use Rattle.std.proofs.lemmas.Result.{MatchResult-weaker}
use Rattle.rows.specs.Rows.{huts}
use Rattle.routes.specs.Pairs.{straight_written}
use Rattle.routes.proofs.Planned.{reached_there, straight_plan}
use Rattle.routes.proofs.without_square.Goals as goal

pub ties_of-requires : goal.ties_of-requires
ties_of-requires c =
    let at = c.requires.reached in
    record { sizes = at.size; there = reached_there c.args.rows.now (eqb 0) (huts c.args.rows.now - 1) c.args.near.now at }

pub returns : goal.returns
returns c =
    MatchResult-weaker c.straight_calls.result c.straight_calls.ensures
    (λ v e.
    let written : vec_items v ≡ straight_written (vec_items c.in_ok-ties.ties) = rw c.deref.ensures.value at e in
    written ∙ straight_plan c.args.rows.now None c.args.near.now (vec_items c.in_ok-ties.ties) c.requires.reached c.requires.joins c.in_ok-ties.ensures refl)
    (λ f e. e)
