-- Answers as numbers, for callers in other languages. Assumes nothing.
use Rattle.std.specs.Prelude.{◌≡◌, ℕ, Bool, List, [], ◌∷◌, length, Ok, Err, MatchBool, Result, ◌≢◌}
use Rattle.faults.specs.declared.Fault.{Fault}
use Rattle.faults.specs.Fault.{number_of}
use Rattle.knowledge.specs.declared.Outcome.{Outcome}
use Rattle.knowledge.specs.declared.Outcome.TheVariants.{Complete, Lacks}
use Rattle.knowledge.specs.Outcome.{Tells}

-- 0 and after how many calls all know everything; 1, the hut that lacks something and what it lacks; 2 and the fault's number
abbrev pub code_of : Result Outcome Fault → List ℕ
code_of (Ok (Complete k)) = 0 ∷ (k ∷ (0 ∷ []))
code_of (Ok (Lacks i k)) = 1 ∷ (i ∷ (k ∷ []))
code_of (Err f) = 2 ∷ (number_of f ∷ (0 ∷ []))

-- the numbers out are those of the right answer for the calls xs among n huts
pub record Coded (n : ℕ) (xs out : List ℕ) : Type 0 where
  pub answer : Result Outcome Fault
  pub tells : Tells n xs answer
  pub code : out ≡ code_of answer

-- three places get the answer; any other number of places stays as it was
abbrev pub Told : ℕ → List ℕ → List ℕ → Bool → List ℕ → Type 0
Told n xs before r after = MatchBool r ((length before ≡ 3) × Coded n xs after) ((length before ≢ 3) × (after ≡ before))
