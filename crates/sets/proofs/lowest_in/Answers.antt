use Rattle.std.proofs.Common.{rules, ℕ, None, arith, Some}
use Rattle.std.proofs.lemmas.Iterator.{first_from_Range, serves_from_Range}
use Rattle.sets.proofs.Sets.{Marked, Clear, clear_words, lowest_left, lowest_later}
use Rattle.sets.proofs.lowest_in.Goals as goal

pub returns-then-left-ne0 : goal.returns-then-left-ne0
returns-then-left-ne0 g c = lowest_left (goal.F-post g c.args.word) c.args.from c.word.result (omega arith) c.word.ensures c.word.type_inv c.if-left-ne0.true

pub find-requires-clause-callable : goal.find-requires-clause-callable
find-requires-clause-callable g c = serves_from_Range (λ x q k. search rules) (λ x l h y e. rw e (c.requires.callable x h))

pub returns-in_err-next : goal.returns-in_err-next
returns-in_err-next g c =
    let P : ℕ → ℕ → Type 0 = goal.F-post g c.args.word in
    let later = first_from_Range _ _ _ None (Marked P) (Clear P) c.in_err-next.ensures.ran (λ x q k. search rules) (λ x q k. search rules) in
    rw c.from_residual.ensures (record { lowest = λ k since l. clear_words P c.args.from c.word.result 16 c.word.ensures c.if-left-ne0.false later k since (omega arith) })

pub overflow_mul-result : goal.overflow_mul-result
overflow_mul-result g c =
    let P : ℕ → ℕ → Type 0 = goal.F-post g c.args.word in
    let at = first_from_Range _ _ _ (Some c.in_ok-next.next) (Marked P) (Clear P) c.in_ok-next.ensures.ran (λ x q k. search rules) (λ x q k. search rules) in
    omega (arith, at.1)

pub word-requires-2 : goal.word-requires-2
word-requires-2 g c =
    let P : ℕ → ℕ → Type 0 = goal.F-post g c.args.word in
    let at = first_from_Range _ _ _ (Some c.in_ok-next.next) (Marked P) (Clear P) c.in_ok-next.ensures.ran (λ x q k. search rules) (λ x q k. search rules) in
    c.requires.callable c.in_ok-next.next at.1

pub overflow_add-result-2 : goal.overflow_add-result-2
overflow_add-result-2 g c =
    let P : ℕ → ℕ → Type 0 = goal.F-post g c.args.word in
    let at = first_from_Range _ _ _ (Some c.in_ok-next.next) (Marked P) (Clear P) c.in_ok-next.ensures.ran (λ x q k. search rules) (λ x q k. search rules) in
    let h = lowest_later P c.args.from c.word.result c.in_ok-next.next c.word-2.result c.word.ensures c.if-left-ne0.false at c.requires.steady c.word-2.ensures c.word-2.type_inv in
    omega (arith, h.lowest.1)

pub returns : goal.returns
returns g c =
    let P : ℕ → ℕ → Type 0 = goal.F-post g c.args.word in
    let at = first_from_Range _ _ _ (Some c.in_ok-next.next) (Marked P) (Clear P) c.in_ok-next.ensures.ran (λ x q k. search rules) (λ x q k. search rules) in
    lowest_later P c.args.from c.word.result c.in_ok-next.next c.word-2.result c.word.ensures c.if-left-ne0.false at c.requires.steady c.word-2.ensures c.word-2.type_inv
