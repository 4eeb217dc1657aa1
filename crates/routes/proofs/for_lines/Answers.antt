use Rattle.std.proofs.Common.{Some, None, inl, arith}
use Rattle.routes.proofs.Answered.{missing, from_zero, alone_refused, none_refused, rows_join, rows_apart, answers}
use Rattle.routes.proofs.for_lines.Goals as goal

pub returns-in-Some : goal.returns-in-Some
returns-in-Some c =
    let made = c.in_ok-rows.ensures in
    let found = missing c.args.n c.from-huts.result c.in_ok-near.near.huts (Some c.in-Some.alone) c.from-huts.ensures c.in-Some.ensures in
    record { answers = inl (alone_refused c.args.n c.args.lines.now c.in_ok-rows.rows made.0 made.1 made.2 c.only.result c.in_ok-near.near c.in-Some.alone c.only.ensures c.in_ok-near.ensures found.1 found.0) }

pub plan_for-requires : goal.plan_for-requires
plan_for-requires c =
    let made = c.in_ok-rows.ensures in
    let low = missing c.args.n c.from-huts.result c.in_ok-near.near.huts None c.from-huts.ensures c.in_default.ensures in
    record {
      reached = from_zero c.args.n c.args.lines.now c.in_ok-rows.rows made.0 made.1 made.2 c.only.result c.in_ok-near.near c.args.n c.only.ensures c.in_ok-near.ensures low;
      joins = rows_join c.args.n c.args.lines.now c.in_ok-rows.rows made.0 made.1 made.2 c.only.result c.in_ok-near.near c.args.n c.only.ensures c.in_ok-near.ensures low (omega arith);
      apart = rows_apart c.args.n c.args.lines.now c.in_ok-rows.rows made.0 made.1 made.2;
    }

pub returns : goal.returns
returns c =
    let made = c.in_ok-rows.ensures in
    let low = missing c.args.n c.from-huts.result c.in_ok-near.near.huts None c.from-huts.ensures c.in_default.ensures in
    let right = none_refused c.args.n c.args.lines.now c.in_ok-rows.rows made.0 made.1 made.2 c.only.result c.in_ok-near.near c.args.n c.only.ensures c.in_ok-near.ensures low (omega arith) in
    record { answers = answers c.args.n c.args.lines.now c.in_ok-rows.rows made.0 made.1 made.2 right c.plan_for.result c.plan_for.ensures }
