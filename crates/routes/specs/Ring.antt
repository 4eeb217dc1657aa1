-- A ring: the huts that are reached with a line more. Assumes nothing.
--     Ringed rows m d x y    of the huts below m those that are fresh come to what is reached, x before and y after, and are d lines away
use Rattle.std.specs.Prelude.{◌≡◌, ℕ, ◌<◌, cond, ◌&&◌, ◌||◌, ◌++◌, length, nat_lt, slice_index, vec_items}
use Rattle.sets.specs.Set.{in_set}
use Rattle.lines.specs.Row.{those}
use Rattle.rows.specs.declared.table.Rows.{Rows}
use Rattle.routes.specs.declared.reaching.Reach.{Reach}
use Rattle.routes.specs.Fresh.{fresh}

pub record Ringed (rows : Rows) (m d : ℕ) (x y : Reach) : Type 0 where
  pub set : (k : ℕ) → in_set y.huts k ≡ (in_set x.huts k || (nat_lt k m && fresh rows x.huts k))
  pub far : (k : ℕ) → k < length (vec_items x.distances) → slice_index (vec_items y.distances) k ≡ cond (nat_lt k m && fresh rows x.huts k) d (slice_index (vec_items x.distances) k)
  pub size : length (vec_items y.distances) ≡ length (vec_items x.distances)
  pub listed : vec_items y.row ≡ vec_items x.row ++ those (fresh rows x.huts) m
