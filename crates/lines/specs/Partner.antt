-- What a partner is. Assumes nothing.
use Rattle.std.specs.Prelude.{◌≡◌, ℕ, suc, ◌<◌, ◌≤◌, Bool, true}
use Rattle.lines.specs.Line.{Lines}
use Rattle.lines.specs.Way.{distance}

-- k is the partner of hut i: a neighbour, nearer to the middle by a line; no neighbour is nearer, and none that is as near is lower
pub record Partner (n : ℕ) (l : Lines) (mid : ℕ → Bool) (i k : ℕ) : Type 0 where
  pub there : k < n
  pub neighbour : l i k ≡ true
  pub nearer_by_one : suc (distance n l mid k) ≡ distance n l mid i
  pub nearest : (j : ℕ) → j < n → l i j ≡ true → distance n l mid j < n → distance n l mid k ≤ distance n l mid j
  pub lowest : (j : ℕ) → j < n → l i j ≡ true → distance n l mid j ≡ distance n l mid k → k ≤ j
