use Rattle.std.proofs.Common.{sym}
use Rattle.rows.proofs.Told.{row_read}
use Rattle.routes.proofs.Rings.{fresh_no, fresh_is}
use Rattle.routes.proofs.reaching.is_fresh.Goals as goal

pub returns-then-not-has : goal.returns-then-not-has
returns-then-not-has c =
    let row = row_read c.args.rows.now c.args.hut c.index.result.now c.requires.there c.index.ensures in
    fresh_is c.args.rows.now c.args.reached.now c.args.hut c.meets.result (sym c.if-not-has.ensures) (rw row at c.meets.ensures)

pub returns-else-not-has : goal.returns-else-not-has
returns-else-not-has c = rw c.if-not-has.false (fresh_no c.args.rows.now c.args.reached.now c.args.hut (sym c.if-not-has.ensures))
