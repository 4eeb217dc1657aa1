-- What is reached from the middle. Assumes nothing.
use Rattle.std.specs.Prelude.{◌≡◌, ℕ, ◌<◌, Bool, true, ◌&&◌, length, nat_lt, slice_index, vec_items}
use Rattle.sets.specs.Set.{in_set}
use Rattle.lines.specs.Way.{within, distance}
use Rattle.lines.specs.Row.{row_to}
use Rattle.rows.specs.declared.table.Rows.{Rows}
use Rattle.rows.specs.Rows.{huts, told}
use Rattle.routes.specs.declared.reaching.Reach.{Reach}

-- x is what is reached with e lines: its huts, how far each of them is, and those outside the middle
pub record Reached (rows : Rows) (mid : ℕ → Bool) (e : ℕ) (x : Reach) : Type 0 where
  pub set : (k : ℕ) → in_set x.huts k ≡ (nat_lt k (huts rows) && within (huts rows) (told rows) mid e k)
  pub far : (k : ℕ) → k < huts rows → within (huts rows) (told rows) mid e k ≡ true → slice_index (vec_items x.distances) k ≡ distance (huts rows) (told rows) mid k
  pub size : length (vec_items x.distances) ≡ huts rows
  pub listed : vec_items x.row ≡ row_to (huts rows) (told rows) mid e
