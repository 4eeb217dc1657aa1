-- The plan that is printed is the prescribed one. Assumes nothing.
use Rattle.std.proofs.Common.{◌≡◌, ℕ, ◌/◌, length, vec_items, vec_len, ap, arith}
use Rattle.calls.specs.Number.{numbers}
use Rattle.calls.proofs.Numbers.{length-numbers}
use Rattle.plans.specs.declared.Plan.{Plan}
use Rattle.plans.specs.Complete.{plan}
use Rattle.plans.specs.Answer.{Planned}
use Rattle.plans.specs.Text.{text_shown, plan_shown}
use Rattle.plan.specs.Printed.{plan_text}

pub shown_planned : (n : ℕ) (p : Plan) → Planned n p → plan_shown p ≡ plan_text n
shown_planned n p h =
    let e : vec_len p.calls ≡ length (vec_items p.calls) = p.calls.ok.0 in
    let l : length (vec_items p.calls) ≡ length (numbers (plan n)) = ap length h.listed in
    let k = length-numbers (plan n) in
    let c : vec_len p.calls / 2 ≡ length (plan n) = omega arith in
    λ i. text_shown (h.listed i) (h.square i) (c i)
