use Rattle.std.proofs.Common.{sym, arith}
use Rattle.rows.proofs.Told.{row_read}
use Rattle.checks.proofs.Calls.{along-line, no_line}
use Rattle.checks.proofs.call_fault.Goals as goal

pub returns-then-not-has : goal.returns-then-not-has
returns-then-not-has c =
    let row = row_read c.args.rows.now c.args.a c.index.result.now (omega arith) c.index.ensures in
    no_line c.args.rows.now c.args.a c.args.e (omega arith) (omega arith) (rw row at (sym c.if-not-has.ensures))

pub returns : goal.returns
returns c =
    let row = row_read c.args.rows.now c.args.a c.index.result.now (omega arith) c.index.ensures in
    along-line c.args.rows.now c.args.a c.args.e (omega arith) (omega arith) (rw row at (sym c.if-not-has.ensures))
