-- Worked examples, as rows of one table. Assumes nothing.
use Rattle.std.specs.Prelude.{◌≡◌, List, [], ◌∷◌, ℕ, length}
use Rattle.calls.specs.Call.{AllKnow}
use Rattle.calls.specs.Number.{numbers}
use Rattle.plans.specs.Complete.{plan}

pub data Example : Type 0 where
  -- n huts that can all call each other: the calls of their plan, two numbers each, the caller first, in their order; and how many they are
  all_lines : (n : ℕ) (calls : List ℕ) (count : ℕ) → Example

-- what a row says of the definitions
abbrev pub Shows : Example → Type 0
Shows (all_lines n calls count) = (numbers (plan n) ≡ calls) × (length (plan n) ≡ count) × AllKnow n (plan n)

abbrev pub table : List Example
table =
    all_lines 4 (0 ∷ (1 ∷ (2 ∷ (3 ∷ (0 ∷ (2 ∷ (1 ∷ (3 ∷ [])))))))) 4
    ∷ (all_lines 5 (0 ∷ (4 ∷ (0 ∷ (1 ∷ (2 ∷ (3 ∷ (0 ∷ (2 ∷ (1 ∷ (3 ∷ (0 ∷ (4 ∷ [])))))))))))) 6
    ∷ (all_lines 6 (0 ∷ (4 ∷ (0 ∷ (5 ∷ (0 ∷ (1 ∷ (2 ∷ (3 ∷ (0 ∷ (2 ∷ (1 ∷ (3 ∷ (0 ∷ (4 ∷ (0 ∷ (5 ∷ [])))))))))))))))) 8
    ∷ []))

abbrev pub Each : List Example → Type 0
Each [] = Unit {0}
Each (x ∷ xs) = Shows x × Each xs

abbrev pub TableHolds : Type 0
TableHolds = Each table
