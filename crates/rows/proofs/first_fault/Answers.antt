use Rattle.std.proofs.Common.{◌∙◌, arith}
use Rattle.std.proofs.lemmas.Bool.{ltb-true, ltb-false}
use Rattle.std.proofs.lemmas.Result.{err_from_is_err_and}
use Rattle.rows.proofs.Lines.{wrong_here, wrong_later, wrong_none}
use Rattle.rows.proofs.first_fault.Goals as goal

pub returns-in_err-line_fault : goal.returns-in_err-line_fault
returns-in_err-line_fault c =
    let p = err_from_is_err_and c.from_residual.result c.from_residual.ensures.1 in
    rw (p.1, p.2) (wrong_here c.args.n c.loop-left.before.0 c.loop-left.before.1 c.loop-left.left.now _ (omega (arith, ltb-false)) c.in_err-line_fault.ensures ∙ c.loop-left.invariant)

pub loop-left-preserved : goal.loop-left-preserved
loop-left-preserved c = wrong_later c.args.n c.loop-left.before.0 c.loop-left.before.1 c.loop-left.left.now (omega (arith, ltb-false)) c.in_ok-line_fault.ensures ∙ c.loop-left.invariant

pub returns : goal.returns
returns c = wrong_none c.args.n c.loop-left.before.0 c.loop-left.before.1 c.loop-left.left.now (omega (arith, ltb-true)) ∙ c.loop-left.invariant
