use Rattle.std.proofs.Common.{◌∙◌, arith}
use Rattle.std.proofs.lemmas.Bool.{ltb-true, ltb-false}
use Rattle.std.proofs.lemmas.Result.{err_from_is_err_and}
use Rattle.rows.specs.Rows.{huts, told}
use Rattle.checks.proofs.Calls.{wrong_here, wrong_later, wrong_none}
use Rattle.checks.proofs.first_off.Goals as goal

pub returns-in_err-call_fault : goal.returns-in_err-call_fault
returns-in_err-call_fault c =
    let p = err_from_is_err_and c.from_residual.result c.from_residual.ensures.1 in
    rw (p.1, p.2)
    (wrong_here (huts c.args.rows.now) (told c.args.rows.now) c.loop-left.left.now _ (omega (arith, ltb-false)) (rw (c.from.ensures, c.from-in-len2-up.ensures) at c.in_err-call_fault.ensures) ∙ c.loop-left.invariant)

pub loop-left-preserved : goal.loop-left-preserved
loop-left-preserved c = wrong_later (huts c.args.rows.now) (told c.args.rows.now) c.loop-left.left.now (omega (arith, ltb-false)) (rw (c.from.ensures, c.from-in-len2-up.ensures) at c.in_ok-call_fault.ensures) ∙ c.loop-left.invariant

pub returns : goal.returns
returns c = wrong_none (huts c.args.rows.now) (told c.args.rows.now) c.loop-left.left.now (omega (arith, ltb-true)) ∙ c.loop-left.invariant
