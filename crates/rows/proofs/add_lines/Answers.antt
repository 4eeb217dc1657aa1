use Rattle.std.proofs.Common.{◌≤◌, length, ◌∙◌, arith}
use Rattle.std.proofs.lemmas.Bool.{ltb-true, ltb-false}
use Rattle.rows.specs.Rows.{huts}
use Rattle.rows.proofs.Told.{next_there, next_line, none_left}
use Rattle.rows.proofs.add_lines.Goals as goal

pub join-requires-clause-one : goal.join-requires-clause-one
join-requires-clause-one c =
    let there = next_there c.loop-left.left.now (huts c.loop-left.rows) c.loop-left.invariant.there (omega (arith, ltb-false)) in
    rw c.from.ensures there.0

pub join-requires-clause-other : goal.join-requires-clause-other
join-requires-clause-other c =
    let there = next_there c.loop-left.left.now (huts c.loop-left.rows) c.loop-left.invariant.there (omega (arith, ltb-false)) in
    rw c.from-in-len2-up.ensures there.1

pub loop-left-preserved : goal.loop-left-preserved
loop-left-preserved c =
    let two : 2 ≤ length c.loop-left.left.now = omega (arith, ltb-false) in
    let next = next_line c.loop-left.left.now in
    record {
      same = c.join.ensures.same ∙ c.loop-left.invariant.same;
      parts =
          λ i k.
          let split = rw (← c.from.ensures, ← c.from-in-len2-up.ensures) at (next i k two) in
          let joined = c.join.ensures.joined i k in
          let before = c.loop-left.invariant.parts i k in
          grind arith;
      there = λ i k t. let split = next i k two in let before = c.loop-left.invariant.there i k (grind arith) in let same = c.join.ensures.same in omega arith;
    }

pub returns-clause-added : goal.returns-clause-added
returns-clause-added c =
    λ i k.
    let none = none_left c.loop-left.left.now i k (omega (arith, ltb-true)) in
    let all = c.loop-left.invariant.parts i k in
    grind arith
