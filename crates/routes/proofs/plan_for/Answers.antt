use Rattle.std.proofs.Common.{Some, None, vec_items}
use Rattle.lines.proofs.Main.{reached}
use Rattle.rows.specs.Rows.{huts, told}
use Rattle.routes.proofs.Planned.{smallest-told, planned}
use Rattle.routes.proofs.plan_for.Goals.{in-Some+in_ok-calls-in-Some, in-None+in_ok-calls-in-None}
use Rattle.routes.proofs.plan_for.Goals as goal

pub with_square-requires-clause-joins : goal.with_square-requires-clause-joins
unfolding told
with_square-requires-clause-joins c =
    let rows = c.args.rows.now in
    reached (huts rows) (told rows) (Some c.in-Some.square) c.requires.joins (smallest-told (vec_items rows.of) (Some c.in-Some.square) c.requires.joins.both c.requires.apart c.in-Some.ensures.smallest)

pub returns : goal.returns
unfolding told
returns c =
    let rows = c.args.rows.now in
    elim c.match-square.branch [
      | in-Some+in_ok-calls-in-Some w ↦
          rw (w.square-is, w.calls-is)
          (planned (huts rows) (told rows) (record { calls = w.in_ok-calls-in-Some.calls; square = Some w.in-Some.square }) c.requires.joins
          (smallest-told (vec_items rows.of) (Some w.in-Some.square) c.requires.joins.both c.requires.apart w.in-Some.ensures.smallest)
          w.in_ok-calls-in-Some.ensures)
      | in-None+in_ok-calls-in-None w ↦
          rw (w.square-is, w.calls-is, w.in-None.is)
          (planned (huts rows) (told rows) (record { calls = w.in_ok-calls-in-None.calls; square = None }) c.requires.joins
          (smallest-told (vec_items rows.of) None c.requires.joins.both c.requires.apart w.in-None.ensures.smallest)
          w.in_ok-calls-in-None.ensures)
    ]
