use Rattle.std.proofs.Common.{◌≡◌, ◌*◌, take, Some, arith}
use Rattle.std.proofs.lemmas.List.{take_rest}
use Rattle.calls.specs.Number.{calls}
use Rattle.knowledge.proofs.Runs.{reached_none, reached_more, complete_from_reached, lack_from_reached}
use Rattle.knowledge.proofs.follow.Goals as goal

pub loop-lacking-init : goal.loop-lacking-init
loop-lacking-init c = reached_none c.args.calls.now c.args.rows.now c.first_lacking-lacking.result c.requires.stands c.requires.there c.first_lacking-lacking.ensures

pub loop-lacking-preserved : goal.loop-lacking-preserved
loop-lacking-preserved c =
    let stands = c.join.ensures _ (calls (take (2 * c.loop-lacking.made) c.args.calls.now)) c.loop-lacking.invariant.stands in
    let e : c.loop-lacking.lacking ≡ Some (c.in-Some.low, c.in-Some.other) = cc in
    rw (take_rest c.loop-lacking.left.now 2)
    (
    reached_more c.args.calls.now c.loop-lacking.left.now c.loop-lacking.rows c.join.new.rows c.loop-lacking.made c.in-Some.low c.in-Some.other
    c.first_lacking-lacking-in-Some.result
    (rw e at c.loop-lacking.invariant)
    (omega arith)
    stands.size
    (rw (c.from.ensures, c.from-in-Some.ensures) at stands)
    c.first_lacking-lacking-in-Some.ensures
    )

pub returns-in_default-left : goal.returns-in_default-left
returns-in_default-left c =
    let e : c.loop-lacking.lacking ≡ Some (c.in-Some.low, c.in-Some.other) = cc in
    rw (← c.loop-lacking.auto.rows)
    (lack_from_reached c.args.calls.now c.loop-lacking.left.now c.loop-lacking.rows c.loop-lacking.made c.in-Some.low c.in-Some.other (rw e at c.loop-lacking.invariant) (omega arith) c.requires.pairs)

pub returns : goal.returns
returns c =
    rw (← c.loop-lacking.auto.rows)
    (complete_from_reached c.args.calls.now c.loop-lacking.left.now c.loop-lacking.rows c.loop-lacking.made (rw c.in_default.is at c.loop-lacking.invariant))
