-- What a list of calls comes to. Assumes nothing.
--     below n xs       every number of xs is below n
--     refusal n xs     the fault for which a list is refused, if there is one
--     Says n xs o      the outcome o is right for the calls xs among n huts
--     Tells n xs r     the answer r is the right outcome, or the right refusal
-- A call of a hut with itself is no fault: nobody learns anything by it.
use Rattle.std.specs.Prelude.{◌≡◌, ℕ, ◌*◌, ◌%◌, ◌<◌, ◌≤◌, Bool, false, cond, T, List, ◌++◌, length, take, Some, None, Ok, Err, codes, decimal, Option, Result, ◌==◌, nat_lt}
use Rattle.calls.specs.Call.{hut_count, knows, AllKnow}
use Rattle.calls.specs.Number.{calls}
use Rattle.faults.specs.declared.Fault.{Fault}
use Rattle.faults.specs.declared.Fault.TheVariants.{Malformed, NoSuchHut, Memory}
use Rattle.std.specs.List.{list_all}
use Rattle.std.specs.Option.{unwrap_or}
use Rattle.knowledge.specs.declared.Outcome.{Outcome}
use Rattle.knowledge.specs.declared.Outcome.TheVariants.{Complete, Lacks}

-- every number is that of one of n huts
abbrev pub below : ℕ → List ℕ → Bool
below n xs = list_all (λ x. nat_lt x n) xs

-- no huts or more than 1,024; else a number that is left alone; else a hut that isn't there
abbrev pub refusal : ℕ → List ℕ → Option Fault
refusal n xs = cond (hut_count n) (cond (length xs % 2 == 1) (Some Malformed) (cond (below n xs) None (Some NoSuchHut))) (Some NoSuchHut)

-- after k calls, and not before, every hut knows what every hut saw
pub record CompleteAfter (n : ℕ) (xs : List ℕ) (k : ℕ) : Type 0 where
  pub there : 2 * k ≤ length xs
  pub all : AllKnow n (calls (take (2 * k) xs))
  pub first : (j : ℕ) → j < k → AllKnow n (calls (take (2 * j) xs)) → ⊥

-- after all the calls hut i does not know what hut k saw: i is the lowest that lacks any, and k the lowest that it lacks
pub record LowestLack (n : ℕ) (xs : List ℕ) (i k : ℕ) : Type 0 where
  pub hut : i < n
  pub other : k < n
  pub lacks : knows (calls xs) i k ≡ false
  pub huts_before : (j m : ℕ) → j < i → m < n → T (knows (calls xs) j m)
  pub others_before : (m : ℕ) → m < k → T (knows (calls xs) i m)

-- the two ways a list of calls comes out
abbrev pub Says : ℕ → List ℕ → Outcome → Type 0
Says n xs (Complete k) = CompleteAfter n xs k
Says n xs (Lacks i k) = LowestLack n xs i k

-- an outcome where nothing is to be refused; else the refusal, and want of memory only where there is none
abbrev pub Tells : ℕ → List ℕ → Result Outcome Fault → Type 0
Tells n xs (Ok o) = (refusal n xs ≡ None) × Says n xs o
Tells n xs (Err f) = f ≡ unwrap_or (refusal n xs) Memory

-- the line by which an outcome is told
abbrev pub shown_of : Outcome → List ℕ
shown_of (Complete k) = codes "all know everything after " ++ (decimal k ++ codes " calls")
shown_of (Lacks i k) = codes "hut " ++ (decimal i ++ (codes " does not know of hut " ++ decimal k))
