-- Huts that are reached with a line more. Assumes nothing.
--     fresh rows s k     hut k is not in the set s, and has a neighbour there
use Rattle.std.specs.Prelude.{ℕ, Bool, not, ◌&&◌, vec_items}
use Rattle.sets.specs.declared.HutSet.{HutSet}
use Rattle.sets.specs.Set.{in_set, row_of}
use Rattle.lines.specs.Way.{some}
use Rattle.rows.specs.declared.table.Rows.{Rows}

unfoldable pub fresh : Rows → HutSet → ℕ → Bool
fresh rows s k = not (in_set s k) && some (λ j. in_set (row_of (vec_items rows.of) k) j && in_set s j) 1024
