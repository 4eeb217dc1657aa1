-- What is promised of the plan for a list of lines. Assumes nothing.
--     alone n l        the lowest hut that is not joined to hut 0, or n if there is none
--     refusal n xs     the fault for which the list xs of lines among n huts is refused, if it has one
--     Planned n l p    p is the plan for the lines l among n huts
--     Answers n xs r   the answer r is the plan, or the right refusal
use Rattle.std.specs.Prelude.{◌≡◌, ℕ, cond, not, ◌⊎◌, List, Some, None, Ok, Err, vec_items, Option, Result, nat_lt}
use Rattle.faults.specs.declared.Fault.{Fault}
use Rattle.faults.specs.declared.Fault.TheVariants.{NotJoined, Memory}
use Rattle.calls.specs.Number.{numbers}
use Rattle.plans.specs.declared.Plan.{Plan}
use Rattle.lines.specs.Line.{Lines, line, or_else}
use Rattle.rows.specs.Rows.{early}
use Rattle.lines.specs.Way.{lowest, joined}
use Rattle.lines.specs.Square.{Smallest}
use Rattle.lines.specs.Plan.{plan, Does}

abbrev pub alone : ℕ → Lines → ℕ
alone n l = lowest (λ i. not (joined n l i)) n

-- not all are joined: told with the lowest that isn't
abbrev pub apart : ℕ → Lines → Option Fault
apart n l = cond (nat_lt (alone n l) n) (Some (NotJoined (alone n l))) None

abbrev pub refusal : ℕ → List ℕ → Option Fault
refusal n xs = or_else (early n xs) (apart n (line xs))

pub record Planned (n : ℕ) (l : Lines) (p : Plan) : Type 0 where
  -- exactly the prescribed calls, in their order
  pub listed : vec_items p.calls ≡ numbers (plan n l)
  -- the smallest square if it tells one, and if it tells none there is none
  pub square : Smallest n l p.square
  -- its calls are along lines, bring everything to everybody, with any others in between too, and are 2n - 4 with a square, 2n - 3 without
  pub does : Does n l p.square (plan n l)

-- a plan where nothing is to be refused; else the refusal; and want of memory only where the list has no fault in itself
abbrev pub Answers : ℕ → List ℕ → Result Plan Fault → Type 0
Answers n xs (Ok p) = (refusal n xs ≡ None) × Planned n (line xs) p
Answers n xs (Err f) = (refusal n xs ≡ Some f) ⊎ ((f ≡ Memory) × (early n xs ≡ None))
