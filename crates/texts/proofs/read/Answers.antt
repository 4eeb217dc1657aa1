use Rattle.std.proofs.Common.{◌≡◌, ◌∙◌, ◌+◌, ◌<◌, ◌^◌, length, drop, ap, vec_items, rules, tests, arith}
use Rattle.std.proofs.lemmas.Iterator.Consumers.{YieldsList-at}
use Rattle.std.proofs.lemmas.Iterator.Splits.{YieldsList-from_slice_split}
use Rattle.std.proofs.lemmas.List.{length-drop}
use Rattle.std.proofs.lemmas.List.Splits.{length-slice_split}
use Rattle.std.proofs.lemmas.List.Sums.{count_by-le-length}
use Rattle.std.proofs.lemmas.Result.{err_from_is_err_and}
use Rattle.texts.specs.Lines.{newline, lines_of}
use Rattle.texts.specs.declared.Unread.TheVariants.{Line}
use Rattle.texts.proofs.Chains.{next_item, split_fused, YieldsList-from_numbered}
use Rattle.texts.proofs.Pairs.{listed, no_huts, begins, reads_broken, reads_blank, reads_pair, passes_pair, ends}
use Rattle.texts.proofs.read.Goals as goal

pub returns-in_default : goal.returns-in_default
returns-in_default c =
    let text = c.args.text.now in
    let first = next_item (split_fused _) _ _ (YieldsList-from_slice_split _ newline text c.split-lines.ensures.rest c.split-lines.ensures.done c.split-lines.ensures.closure (λ x r q k. search (rules, tests))) c.next.result _ c.next.ensures.steps in
    no_huts _ _ _ (listed (lines_of text) c.next.result c.and_then.result first.0 c.and_then.ensures) (search rules)

pub loop-k-init : goal.loop-k-init
loop-k-init c =
    let text = c.args.text.now in
    let first = next_item (split_fused _) _ _ (YieldsList-from_slice_split _ newline text c.split-lines.ensures.rest c.split-lines.ensures.done c.split-lines.ensures.closure (λ x r q k. search (rules, tests))) c.next.result _ c.next.ensures.steps in
    let all = listed (lines_of text) c.next.result c.and_then.result first.0 c.and_then.ensures in
    let fits : 2 + length (drop 1 (lines_of text)) < 2 ^ 64 = omega (arith, length-drop 1 (lines_of text), length-slice_split newline text, count_by-le-length newline text) in
    begins _ _ _ _ _ _ (YieldsList-at c.into_iter-k-iterator.ensures.into_iter_gives (YieldsList-from_numbered _ _ 2 _ c.zip-k-items.result (ap (λ r. r.start) c.zip-k-items.ensures.first) fits (YieldsList-at c.zip-k-items.ensures.second first.1)))
    (rw c.in-Some.is at all) c.new-pairs.ensures.items

pub returns-in_err-a : goal.returns-in_err-a
returns-in_err-a c =
    let p = err_from_is_err_and c.from_residual.result c.from_residual.ensures.1 in
    let told : c.in_err-a.field-0.0 ≡ Line c.in-Some-2.k = search rules in
    rw (p.1, p.2) (told ∙ reads_broken _ _ _ _ c.next-in-loop-k.new.self (c.in-Some-2.k, c.in-Some-2.line) c.loop-k.gathered (vec_items c.loop-k.pairs) c.loop-k.invariant c.in-Some-2.ensures.steps (search rules))

pub loop-k-preserved-then-is_ok : goal.loop-k-preserved-then-is_ok
loop-k-preserved-then-is_ok c =
    reads_pair _ _ _ _ c.next-in-loop-k.new.self (c.in-Some-2.k, c.in-Some-2.line) c.loop-k.gathered _ (c.in-Some-3.a, c.in-Some-3.e) (vec_items c.loop-k.pairs) _ c.loop-k.invariant c.in-Some-2.ensures.steps (search rules) c.if-is_ok.ensures.value c.extend_from_slice-gathered.ensures.items

pub loop-k-preserved-else-is_ok : goal.loop-k-preserved-else-is_ok
loop-k-preserved-else-is_ok c =
    passes_pair _ _ _ _ c.next-in-loop-k.new.self (c.in-Some-2.k, c.in-Some-2.line) c.loop-k.gathered (c.in-Some-3.a, c.in-Some-3.e) (vec_items c.loop-k.pairs) c.loop-k.invariant c.in-Some-2.ensures.steps (search rules) c.if-is_ok.ensures.value

pub loop-k-preserved : goal.loop-k-preserved
loop-k-preserved c = reads_blank _ _ _ _ c.next-in-loop-k.new.self (c.in-Some-2.k, c.in-Some-2.line) c.loop-k.gathered (vec_items c.loop-k.pairs) c.loop-k.invariant c.in-Some-2.ensures.steps (search rules)

pub returns-in_err-gathered : goal.returns-in_err-gathered
returns-in_err-gathered c =
    let p = err_from_is_err_and c.from_residual-in_err-gathered.result c.from_residual-in_err-gathered.ensures.1 in
    let end = ends _ _ _ _ c.next-in-loop-k.new.self c.loop-k.gathered (vec_items c.loop-k.pairs) c.loop-k.invariant c.in-None.ensures.steps in
    rw (p.1, p.2) (rw c.in_err-gathered.was at end)

pub returns : goal.returns
returns c = let end = ends _ _ _ _ c.next-in-loop-k.new.self c.loop-k.gathered (vec_items c.loop-k.pairs) c.loop-k.invariant c.in-None.ensures.steps in rw c.in_ok-gathered.was at end
