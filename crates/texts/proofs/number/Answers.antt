use Rattle.std.proofs.Common.{arith, sym}
use Rattle.texts.proofs.Digits.{all_digits_more, read_on_more, all_digits_broken, number_none}
use Rattle.texts.proofs.number.Goals as goal

pub returns-then-not-is_ascii_digit : goal.returns-then-not-is_ascii_digit
returns-then-not-is_ascii_digit c = number_none c.args.word.now (all_digits_broken c.args.word.now c.loop-d.d-index c.loop-d-test.true (sym c.if-not-is_ascii_digit.ensures.value))

pub loop-d-preserved : goal.loop-d-preserved
loop-d-preserved c =
    let value = read_on_more c.args.word.now c.loop-d.d-index c.loop-d-test.true in
    (all_digits_more c.args.word.now c.loop-d.d-index c.loop-d-test.true (sym c.if-not-is_ascii_digit.ensures.value) c.loop-d.invariant.0, omega arith)
