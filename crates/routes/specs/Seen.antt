-- Squares as they are looked up in rows. Assumes nothing.
--     stands rows i k      hut k stands in the row of hut i
--     seen_in sets a b c d a square in a list of sets, with a the lowest of the four and b below d; the line d-a is looked up from a
--     seen rows a b c d    one in the rows
use Rattle.std.specs.Prelude.{ℕ, Bool, ◌&&◌, List, nat_lt, vec_items}
use Rattle.sets.specs.declared.HutSet.{HutSet}
use Rattle.sets.specs.Set.{in_set, row_of}
use Rattle.rows.specs.declared.table.Rows.{Rows}

abbrev pub stands : Rows → ℕ → ℕ → Bool
stands rows i k = in_set (row_of (vec_items rows.of) i) k

abbrev pub seen_in : List HutSet → ℕ → ℕ → ℕ → ℕ → Bool
seen_in sets a b c d =
    (nat_lt a b && (nat_lt a c && nat_lt b d)) && (in_set (row_of sets a) b && (in_set (row_of sets b) c && (in_set (row_of sets c) d && in_set (row_of sets a) d)))

abbrev pub seen : Rows → ℕ → ℕ → ℕ → ℕ → Bool
seen rows = seen_in (vec_items rows.of)
