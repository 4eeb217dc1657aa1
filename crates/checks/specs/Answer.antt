-- What is promised of a check of calls. Assumes nothing.
--     wrong_of n xs m ys   what is wrong with the lines xs among n huts, or else with the calls ys, which say that they are for m huts
--     Counts n xs r        the answer r is how many calls the plan for the lines xs has, or the right refusal
--     Reported n xs ys r   the report r is right for the lines xs among n huts and the calls ys
--     Checks n xs m ys r   the answer r is the right report, or the right refusal
--     IsMapped gives w v   v has the same at fault as w, lines or calls, and what it says of it is given by what w says
--     report_shown r       the two lines by which a report is told
use Rattle.std.specs.Prelude.{◌≡◌, ℕ, ◌⊎◌, List, ◌++◌, length, Some, None, Ok, Err, codes, decimal, Option, Result}
use Rattle.faults.specs.declared.Fault.{Fault}
use Rattle.faults.specs.declared.Fault.TheVariants.{Memory}
use Rattle.knowledge.specs.Outcome.{Says, shown_of}
use Rattle.lines.specs.Line.{line}
use Rattle.lines.specs.Plan.{plan}
use Rattle.rows.specs.Rows.{early}
use Rattle.routes.specs.Answer.{refusal}
use Rattle.checks.specs.declared.Report.{Report}
use Rattle.checks.specs.declared.Wrong.{Wrong}
use Rattle.checks.specs.declared.Wrong.TheVariants.{Lines, Calls}
use Rattle.checks.specs.Call.{call_fault}

-- whose fault it is: the lines are looked at before the calls
abbrev pub sided : Option Fault → Option Fault → Option (Wrong Fault)
sided (Some f) g = Some (Lines f)
sided None (Some g) = Some (Calls g)
sided None None = None

abbrev pub wrong_of : ℕ → List ℕ → ℕ → List ℕ → Option (Wrong Fault)
wrong_of n xs m ys = sided (refusal n xs) (call_fault n (line xs) m ys)

-- the number where nothing is to be refused; else the refusal; and want of memory only where the list has no fault in itself
abbrev pub Counts : ℕ → List ℕ → Result ℕ Fault → Type 0
Counts n xs (Ok k) = (refusal n xs ≡ None) × (k ≡ length (plan n (line xs)))
Counts n xs (Err f) = (refusal n xs ≡ Some f) ⊎ ((f ≡ Memory) × (early n xs ≡ None))

pub record Reported (n : ℕ) (xs ys : List ℕ) (r : Report) : Type 0 where
  -- what the calls come to among n huts
  pub says : Says n ys r.outcome
  -- the number of calls of the plan for these lines
  pub count : r.plan ≡ length (plan n (line xs))

-- want of memory: told of the lines only where they have no fault in themselves, and of the calls only where nothing is wrong at all
abbrev pub Wanting : ℕ → List ℕ → ℕ → List ℕ → Wrong Fault → Type 0
Wanting n xs m ys (Lines f) = (f ≡ Memory) × (early n xs ≡ None)
Wanting n xs m ys (Calls f) = (f ≡ Memory) × (wrong_of n xs m ys ≡ None)

-- a report where nothing is wrong; else what is, or want of memory
abbrev pub Checks : ℕ → List ℕ → ℕ → List ℕ → Result Report (Wrong Fault) → Type 0
Checks n xs m ys (Ok r) = (wrong_of n xs m ys ≡ None) × Reported n xs ys r
Checks n xs m ys (Err w) = (wrong_of n xs m ys ≡ Some w) ⊎ Wanting n xs m ys w

-- what is said of the lines is given by what was said of them, and so of the calls
abbrev pub IsMapped : {E D : Type 0} → (E → D → Type 0) → Wrong E → Wrong D → Type 0
IsMapped gives (Lines e) (Lines d) = gives e d
IsMapped gives (Calls e) (Calls d) = gives e d
IsMapped gives w v = ⊥

-- what the calls come to, and how many calls the plan has, each on a line of its own
abbrev pub report_shown : Report → List ℕ
report_shown r = shown_of r.outcome ++ (codes "\nthe plan has " ++ (decimal r.plan ++ codes " calls\n"))
