use Rattle.std.proofs.Common.{◌≡◌, ◌∙◌, ◌-◌, sym, length, take, drop, rules, tests, arith}
use Rattle.std.proofs.lemmas.List.{take_rest}
use Rattle.std.proofs.lemmas.Iterator.{YieldsList-from_slice}
use Rattle.std.proofs.lemmas.Iterator.Search.{position_from_yields_List}
use Rattle.texts.specs.Lines.{blank}
use Rattle.texts.proofs.Words.{solid, none_found, found, found_or_end, no_words, words_first}
use Rattle.texts.proofs.first_word.Goals as goal

pub returns-in_err-start : goal.returns-in_err-start
returns-in_err-start c =
    let line = c.args.line.now in
    let start = position_from_yields_List solid _ _ c.position.result c.position.ensures.ran (YieldsList-from_slice line c.iter.ensures.rest) (λ x b q k. search (rules, tests)) in
    rw c.from_residual.ensures (no_words line (none_found solid line (sym c.in_err-start.was ∙ start)))

pub returns : goal.returns
returns c =
    let line = c.args.line.now in
    let at = c.in_ok-start.start in
    let word = take (length line - at) (drop at line) in
    let start = position_from_yields_List solid _ _ c.position.result c.position.ensures.ran (YieldsList-from_slice line c.iter.ensures.rest) (λ x b q k. search (rules, tests)) in
    let end = position_from_yields_List blank _ _ c.position-2.result c.position-2.ensures.ran (YieldsList-from_slice word c.iter-2.ensures.rest) (λ x b q k. search (rules, tests)) in
    let some = found solid line at (sym c.in_ok-start.was ∙ start) in
    let whole : word ≡ drop at line = take_rest line at in
    rw (c.split_at.ensures.front, c.split_at.ensures.back, c.unwrap_or-end.ensures, end, found_or_end blank word, whole, some.0) (words_first line (omega (arith, some.0, some.1)))
