-- What is answered, put together. Assumes nothing.
use Rattle.std.proofs.Common.{◌≡◌, ℕ, ◌/◌, true, false, List, length, Some, None, Ok, Err, Result, MatchResult, vec_items, vec_len, Option, sym, refl, ap, inl, inr, arith}
use Rattle.std.specs.Result.{is_ok, result_err}
use Rattle.std.proofs.lemmas.Bool.{both_ways, cases_Bool}
use Rattle.faults.specs.declared.Fault.{Fault}
use Rattle.calls.specs.Call.{hut_count}
use Rattle.calls.specs.Number.{numbers}
use Rattle.calls.proofs.Numbers.{length-numbers}
use Rattle.knowledge.specs.declared.Outcome.{Outcome}
use Rattle.knowledge.specs.Outcome.{Tells}
use Rattle.lines.specs.Line.{line, or_else}
use Rattle.lines.specs.Plan.{plan}
use Rattle.plans.specs.declared.Plan.{Plan}
use Rattle.rows.specs.declared.table.Rows.{Rows}
use Rattle.rows.specs.Rows.{huts, told, early, Rowed}
use Rattle.routes.specs.Answer.{refusal, apart, Planned}
use Rattle.checks.specs.declared.Wrong.{Wrong}
use Rattle.checks.specs.declared.Wrong.TheVariants.{Calls}
use Rattle.checks.specs.Call.{call_fault}
use Rattle.checks.specs.Answer.{Counts, Checks}
use Rattle.checks.proofs.Calls.{none_refused}

-- a plan that is the prescribed one has as many calls
pub planned_size : (n : ℕ) (xs : List ℕ) (p : Plan) → Planned n (line xs) p → vec_len p.calls / 2 ≡ length (plan n (line xs))
planned_size n xs p h =
    let e : vec_len p.calls ≡ length (vec_items p.calls) = p.calls.ok.0 in
    let l : length (vec_items p.calls) ≡ length (numbers (plan n (line xs))) = ap length h.listed in
    let k = length-numbers (plan n (line xs)) in
    omega arith

first_none : (f g : Option Fault) → or_else f g ≡ None → f ≡ None
first_none None g h = refl
first_none (Some f) g h = h

-- lines that are not refused have no fault in themselves
early_right : (n : ℕ) (xs : List ℕ) → refusal n xs ≡ None → early n xs ≡ None
early_right n xs h = first_none (early n xs) (apart n (line xs)) h

huts_right : (n : ℕ) (xs : List ℕ) → early n xs ≡ None → hut_count n ≡ true
huts_right n xs h =
    elim (cases_Bool (hut_count n)) [ inl there ↦ there | inr away ↦ let z : ◌≡◌ {A = ℕ} 0 1 = let h' = rw away at h in cc in absurd (omega arith) ]

-- what is found by the rows is so by the lines that they tell
pub by_lines :
    (rows : Rows) (n : ℕ) (xs : List ℕ) (m : ℕ) (ys : List ℕ) (o : Option Fault) → huts rows ≡ n → told rows ≡ line xs → o ≡ call_fault (huts rows) (told rows) m ys →
    call_fault n (line xs) m ys ≡ o
by_lines rows n xs m ys o size tells h = sym (rw (size, tells) at h)

-- an answer that is no refusal
pub counted : (n : ℕ) (xs : List ℕ) (r : Result ℕ Fault) → true ≡ is_ok r → Counts n xs r → refusal n xs ≡ None
counted n xs (Ok k) ok h = h.0
counted n xs (Err f) ok h = absurd (both_ways false refl (sym ok))

pub rowed : (n : ℕ) (xs : List ℕ) (r : Result Rows Fault) (rows : Rows) → MatchResult r (λ v. ◌≡◌ {A = Result Rows (Wrong Fault)} (Ok rows) (Ok v)) (λ _. ⊥) → Rowed n xs r → (huts rows ≡ n) × (told rows ≡ line xs)
rowed n xs (Ok v) rows e h = let same : rows ≡ v = cc in rw same (h.1, h.2)
rowed n xs (Err f) rows e h = absurd e

pub no_error : (r : Result (Unit {0}) Fault) → true ≡ is_ok r → result_err r ≡ None
no_error (Ok u) ok = refl
no_error (Err f) ok = absurd (both_ways false refl (sym ok))

-- there is no memory to follow calls that are right
pub calls_wanting :
    (n : ℕ) (xs : List ℕ) (m : ℕ) (ys : List ℕ) (r : Result Outcome Fault) (w : Wrong Fault) → refusal n xs ≡ None → call_fault n (line xs) m ys ≡ None → Tells n ys r →
    MatchResult r (λ o. ◌≡◌ {A = Result Outcome (Wrong Fault)} (Err w) (Ok o)) (λ f. w ≡ Calls f) → Checks n xs m ys (Err w)
calls_wanting n xs m ys (Ok o) w right fine tells e = absurd (let z : ◌≡◌ {A = ℕ} 0 1 = cc in omega arith)
calls_wanting n xs m ys (Err f) w right fine tells e =
    let none = none_refused n (line xs) m ys (huts_right n xs (early_right n xs right)) fine in
    rw e (inr (rw none at tells, rw (right, fine)))
