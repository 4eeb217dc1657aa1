-- Rows of sets of huts, one for each hut: whom it knows. Assumes nothing.
--     Stands n rows cs     each of n huts has the row of those whom it knows after the calls cs
--     Full n rows i        the set of hut i has all huts below n
--     Lack rows f i k      hut i lacks hut k, the lowest that it lacks, and no hut from f on before i lacks any
--     Behind rows f r      r is the lowest hut, from f on, whose set lacks some hut that there is a row for, and the lowest that it lacks, if there is one
use Rattle.std.specs.Prelude.{◌≡◌, ℕ, ◌<◌, ◌≤◌, T, List, length, Option, MatchOption}
use Rattle.calls.specs.Call.{Call, knows}
use Rattle.sets.specs.Set.{in_set, row_of, Lowest}
use Rattle.sets.specs.declared.HutSet.{HutSet}

-- there is a row for each of n huts, and hut k is in row i exactly if hut i knows what hut k saw, after the calls cs
pub record Stands (n : ℕ) (rows : List HutSet) (cs : List Call) : Type 0 where
  pub size : length rows ≡ n
  pub bits : (i k : ℕ) → i < n → in_set (row_of rows i) k ≡ knows cs i k

-- the set of hut i has all huts below n
abbrev pub Full : ℕ → List HutSet → ℕ → Type 0
Full n rows i = (k : ℕ) → k < n → T (in_set (row_of rows i) k)

-- the set of hut i lacks hut k, and no hut below it, and the sets from f on before it lack none
pub record Lack (rows : List HutSet) (f i k : ℕ) : Type 0 where
  pub since : f ≤ i
  pub hut : i < length rows
  pub other : k < length rows
  pub lowest : Lowest (length rows) (row_of rows i) k
  pub before : (j : ℕ) → f ≤ j → j < i → Full (length rows) rows j

-- such a hut, or the sets from f on lack none
abbrev pub Behind : List HutSet → ℕ → Option (ℕ × ℕ) → Type 0
Behind rows f r = MatchOption r ((i : ℕ) → f ≤ i → i < length rows → Full (length rows) rows i) (λ p. Lack rows f p.0 p.1)
