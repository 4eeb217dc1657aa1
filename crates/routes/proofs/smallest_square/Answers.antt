use Rattle.std.proofs.Common.{arith, below_more, ◌∙◌, ap}
use Rattle.sets.specs.Set.{huts_left}
use Rattle.rows.proofs.Told.{row_read}
use Rattle.routes.proofs.Squares.{all_c, all_d, first_b, first_c, first_d, rest_b, rest_c, rest_d, none_b, none_c, none_d, no_line_ad, no_meeting, found, first_seen}
use Rattle.routes.proofs.smallest_square.Goals as goal

pub index-requires-in-loop-b : goal.index-requires-in-loop-b
index-requires-in-loop-b c = let b = first_b c.args.rows.now c.loop-a.a c.in-Some.b _ _ c.in-Some.ensures.steps c.loop-b.invariant in omega (arith, b.1)

pub loop-c-init : goal.loop-c-init
loop-c-init c =
    let b = first_b c.args.rows.now c.loop-a.a c.in-Some.b _ _ c.in-Some.ensures.steps c.loop-b.invariant in
    let row = row_read c.args.rows.now c.in-Some.b c.index-in-loop-b.result.now b.1 c.index-in-loop-b.ensures in
    all_c c.args.rows.now c.loop-a.a c.in-Some.b _ (ap huts_left c.into_iter-c-iterator.ensures.into_iter_gives ∙ (rw row at c.huts-c-items.ensures))

pub index-requires-in-loop-c-2 : goal.index-requires-in-loop-c-2
index-requires-in-loop-c-2 c = let o = first_c c.args.rows.now c.loop-a.a c.in-Some.b c.in-Some-c.c _ _ c.in-Some-c.ensures.steps c.loop-c.invariant in omega (arith, o.1)

pub overflow_add-b : goal.overflow_add-b
overflow_add-b c = let b = first_b c.args.rows.now c.loop-a.a c.in-Some.b _ _ c.in-Some.ensures.steps c.loop-b.invariant in let few = c.args.rows.now.few in omega (arith, b.1)

pub loop-c-preserved : goal.loop-c-preserved
loop-c-preserved c =
    let rows = c.args.rows.now in
    let b = first_b rows c.loop-a.a c.in-Some.b _ _ c.in-Some.ensures.steps c.loop-b.invariant in
    let o = first_c rows c.loop-a.a c.in-Some.b c.in-Some-c.c _ _ c.in-Some-c.ensures.steps c.loop-c.invariant in
    let row_a = row_read rows c.loop-a.a c.index-in-loop-c.result.now (omega arith) c.index-in-loop-c.ensures in
    let row_c = row_read rows c.in-Some-c.c c.index-in-loop-c-2.result.now o.1 c.index-in-loop-c-2.ensures in
    rest_c rows c.loop-a.a c.in-Some.b c.in-Some-c.c _ _ c.in-Some-c.ensures.steps c.loop-c.invariant (no_meeting rows c.loop-a.a c.in-Some.b c.in-Some-c.c (rw (row_a, row_c) at c.if-meets.ensures))

pub index-requires-then-meets : goal.index-requires-then-meets
index-requires-then-meets c = let o = first_c c.args.rows.now c.loop-a.a c.in-Some.b c.in-Some-c.c _ _ c.in-Some-c.ensures.steps c.loop-c.invariant in omega (arith, o.1)

pub loop-d-init : goal.loop-d-init
loop-d-init c =
    let o = first_c c.args.rows.now c.loop-a.a c.in-Some.b c.in-Some-c.c _ _ c.in-Some-c.ensures.steps c.loop-c.invariant in
    let row = row_read c.args.rows.now c.in-Some-c.c c.index-then-meets.result.now o.1 c.index-then-meets.ensures in
    all_d c.args.rows.now c.loop-a.a c.in-Some.b c.in-Some-c.c _ (ap huts_left c.into_iter-d-iterator.ensures.into_iter_gives ∙ (rw row at c.huts-d-items.ensures))

pub loop-c-preserved-in-None-d : goal.loop-c-preserved-in-None-d
loop-c-preserved-in-None-d c =
    rest_c c.args.rows.now c.loop-a.a c.in-Some.b c.in-Some-c.c _ _ c.in-Some-c.ensures.steps c.loop-c.invariant (none_d c.args.rows.now c.loop-a.a c.in-Some.b c.in-Some-c.c _ c.in-None-d.ensures.steps.0 c.loop-d.invariant)

pub loop-d-preserved : goal.loop-d-preserved
loop-d-preserved c =
    let rows = c.args.rows.now in
    let row = row_read rows c.loop-a.a c.index-in-loop-d.result.now (omega arith) c.index-in-loop-d.ensures in
    rest_d rows c.loop-a.a c.in-Some.b c.in-Some-c.c c.in-Some-d.d _ _ c.in-Some-d.ensures.steps c.loop-d.invariant (no_line_ad rows c.loop-a.a c.in-Some.b c.in-Some-c.c c.in-Some-d.d (rw row at c.if-has.ensures))

pub overflow_cast-result-then-has-2 : goal.overflow_cast-result-then-has-2
overflow_cast-result-then-has-2 c =
    let o = first_c c.args.rows.now c.loop-a.a c.in-Some.b c.in-Some-c.c _ _ c.in-Some-c.ensures.steps c.loop-c.invariant in
    let few = c.args.rows.now.few in
    omega (arith, o.1)

pub overflow_cast-result-then-has-3 : goal.overflow_cast-result-then-has-3
overflow_cast-result-then-has-3 c =
    let d = first_d c.args.rows.now c.loop-a.a c.in-Some.b c.in-Some-c.c c.in-Some-d.d _ _ c.in-Some-d.ensures.steps c.loop-d.invariant in
    let few = c.args.rows.now.few in
    omega (arith, d.1)

pub loop-b-preserved : goal.loop-b-preserved
loop-b-preserved c = rest_b c.args.rows.now c.loop-a.a c.in-Some.b _ _ c.in-Some.ensures.steps c.loop-b.invariant (none_c c.args.rows.now c.loop-a.a c.in-Some.b _ c.in-None-c.ensures.steps.0 c.loop-c.invariant)

pub loop-a-preserved : goal.loop-a-preserved
loop-a-preserved c = below_more _ _ c.loop-a.invariant (none_b c.args.rows.now c.loop-a.a _ c.in-None.ensures.steps.0 c.loop-b.invariant)

pub returns-then-has : goal.returns-then-has
returns-then-has c =
    let rows = c.args.rows.now in
    let b = first_b rows c.loop-a.a c.in-Some.b _ _ c.in-Some.ensures.steps c.loop-b.invariant in
    let o = first_c rows c.loop-a.a c.in-Some.b c.in-Some-c.c _ _ c.in-Some-c.ensures.steps c.loop-c.invariant in
    let d = first_d rows c.loop-a.a c.in-Some.b c.in-Some-c.c c.in-Some-d.d _ _ c.in-Some-d.ensures.steps c.loop-d.invariant in
    let row = row_read rows c.loop-a.a c.index-in-loop-d.result.now (omega arith) c.index-in-loop-d.ensures in
    record {
      smallest =
          first_seen rows c.loop-a.a c.in-Some.b c.in-Some-c.c c.in-Some-d.d (omega arith) b.1 o.1 d.1
          (found rows c.loop-a.a c.in-Some.b c.in-Some-c.c c.in-Some-d.d b.0 o.0 d.0 b.2 o.2 d.2 (rw row at c.if-has.ensures))
          c.loop-a.invariant b.3 o.3 d.3;
    }
