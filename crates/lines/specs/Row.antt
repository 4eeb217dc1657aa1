-- The row of the huts that are not in the middle, and their partners. Assumes nothing.
--     those f m           the numbers below m that pass the test f, in order
--     row_to n l mid d    the huts that are 1 to d lines from the middle: nearer ones first, lower ones first among equals
--     row n l mid         all of them
--     partner n l mid i   the neighbour of hut i that is nearer to the middle by a line, the lowest if there are several
use Rattle.std.specs.Prelude.{ℕ, zero, suc, ◌-◌, Bool, cond, ◌&&◌, List, [], ◌∷◌, ◌++◌, ◌==◌, nat_eq}
use Rattle.lines.specs.Line.{Lines}
use Rattle.lines.specs.Way.{lowest, distance}

unfoldable pub those : (ℕ → Bool) → ℕ → List ℕ
those f zero = []
those f (suc m) = those f m ++ cond (f m) (m ∷ []) []

unfoldable pub row_to : ℕ → Lines → (ℕ → Bool) → ℕ → List ℕ
row_to n l mid zero = []
row_to n l mid (suc d) = row_to n l mid d ++ those (λ i. nat_eq (distance n l mid i) (suc d)) n

-- no hut that a way leads to is n lines away
abbrev pub row : ℕ → Lines → (ℕ → Bool) → List ℕ
row n l mid = row_to n l mid (n - 1)

unfoldable pub partner : ℕ → Lines → (ℕ → Bool) → ℕ → ℕ
partner n l mid i = lowest (λ k. l i k && suc (distance n l mid k) == distance n l mid i) n
