-- Calls as plain numbers: two for each call, the caller first; the earliest call stands first. Assumes nothing.
--     numbers cs    the numbers by which the calls cs are written down
--     calls xs      the calls that the numbers xs stand for
use Rattle.std.specs.Prelude.{◌≡◌, ℕ, ◌%◌, List, [], ◌∷◌, ◌++◌, length}
use Rattle.calls.specs.Call.{Call, call}

unfoldable pub numbers : List Call → List ℕ
numbers [] = []
numbers (c ∷ cs) = numbers cs ++ (c.a ∷ c.e ∷ [])

-- the calls of xs made one after the other, after those of cs; a last number that is alone stands for no call
unfoldable pub onto : List Call → List ℕ → List Call
onto cs [] = cs
onto cs (a ∷ []) = cs
onto cs (a ∷ e ∷ xs) = onto (call a e ∷ cs) xs

abbrev pub calls : List ℕ → List Call
calls xs = onto [] xs

-- The two are each other's inverse, as long as no number is left alone.
pub record Written : Type 0 where
  pub read_back : (cs : List Call) → calls (numbers cs) ≡ cs
  pub write_back : (xs : List ℕ) → length xs % 2 ≡ 0 → numbers (calls xs) ≡ xs
