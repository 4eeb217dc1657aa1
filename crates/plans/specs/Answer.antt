-- What is promised of the plan for n huts that can all call each other. Assumes nothing.
use Rattle.std.specs.Prelude.{◌≡◌, ℕ, ◌-◌, ◌*◌, ◌<◌, ◌≤◌, cond, T, List, length, Some, None, Ok, Err, vec_items, Option, Result, nat_lt}
use Rattle.std.specs.Option.{unwrap_or}
use Rattle.faults.specs.declared.Fault.{Fault}
use Rattle.faults.specs.declared.Fault.TheVariants.{NoSuchHut, Memory}
use Rattle.calls.specs.Call.{hut_count, Call, AllKnow, among, Holds}
use Rattle.calls.specs.Number.{numbers}
use Rattle.plans.specs.declared.Plan.{Plan}
use Rattle.plans.specs.declared.Square.{Square}
use Rattle.plans.specs.Complete.{plan}

-- with all lines the smallest square is 0, 1, 2, 3; below four huts there is none
abbrev pub middle : ℕ → Option Square
middle n = cond (nat_lt n 4) None (Some (record { a = 0; b = 1; c = 2; d = 3 }))

pub record Planned (n : ℕ) (p : Plan) : Type 0 where
  -- exactly the prescribed calls, in their order
  pub listed : vec_items p.calls ≡ numbers (plan n)
  -- between different huts that are there
  pub apart : T (among n (plan n))
  -- they bring everything to everybody
  pub all_know : AllKnow n (plan n)
  -- and so does every list that holds them in their order, with any other calls in between
  pub with_others : (cs : List Call) → Holds (plan n) cs → AllKnow n cs
  -- no list of calls whatever among these huts that does so has fewer
  pub least : (cs : List Call) → T (among n cs) → AllKnow n cs → length (plan n) ≤ length cs
  -- how many there are
  pub count : 4 ≤ n → length (plan n) ≡ 2 * n - 4
  pub count_few : 2 ≤ n → n < 4 → length (plan n) ≡ 2 * n - 3
  -- whether there is a square, and which
  pub square : p.square ≡ middle n

-- the fault of a number of huts, if it has one
abbrev pub refusal : ℕ → Option Fault
refusal n = cond (hut_count n) None (Some NoSuchHut)

-- a plan for a number that is not refused; else its fault, or want of memory where it has none
abbrev pub Answers : ℕ → Result Plan Fault → Type 0
Answers n (Ok p) = (refusal n ≡ None) × Planned n p
Answers n (Err f) = f ≡ unwrap_or (refusal n) Memory
