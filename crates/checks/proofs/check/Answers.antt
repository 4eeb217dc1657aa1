use Rattle.std.proofs.Common.{None, sym, ◌∙◌}
use Rattle.std.proofs.lemmas.Result.{err_from_is_err_and}
use Rattle.checks.proofs.Answers.{by_lines, counted, rowed, no_error, calls_wanting}
use Rattle.checks.proofs.check.Goals as goal

pub returns-in_err-outcome : goal.returns-in_err-outcome
returns-in_err-outcome c =
    let p = err_from_is_err_and c.from_residual-in_err-outcome.result c.from_residual-in_err-outcome.ensures.1 in
    let right = counted c.args.n c.args.lines.now c.plan_size.result c.in_ok-plan.ensures.variant c.plan_size.ensures in
    let told = rowed c.args.n c.args.lines.now c.rows_of.result c.in_ok-rows.rows c.in_ok-rows.ensures.cases c.rows_of.ensures in
    let found = sym (no_error c.fault_in.result c.in_ok-map_err.ensures.variant) ∙ c.fault_in.ensures in
    let fine = by_lines c.in_ok-rows.rows c.args.n c.args.lines.now c.args.m c.args.calls.now None told.0 told.1 found in
    rw (p.1, p.2) (record { checks = calls_wanting c.args.n c.args.lines.now c.args.m c.args.calls.now c.who_knows.result c.in_err-outcome.field-0.0 right fine c.who_knows.ensures.tells c.in_err-outcome.ensures.cases })
