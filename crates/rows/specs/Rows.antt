-- Lines as rows of sets, one for each hut: its neighbours. Assumes nothing.
--     huts rows          how many huts there are
--     tells sets         the lines that a list of sets tells: hut i is there, and hut k stands in its set
--     told rows          those that the rows tell
--     early n xs         the fault that a list of lines has in itself: in the number of huts, in its length, or in its first wrong line
--     Rowed n xs r       the answer r has the rows of the lines xs among n huts, or their fault
use Rattle.std.specs.Prelude.{◌≡◌, ℕ, ◌%◌, cond, ◌&&◌, List, length, Some, None, Ok, Err, vec_items, Option, Result, ◌==◌, nat_lt}
use Rattle.sets.specs.Set.{in_set}
use Rattle.sets.specs.declared.HutSet.{HutSet}
use Rattle.std.specs.Option.{unwrap_or}
use Rattle.faults.specs.declared.Fault.{Fault}
use Rattle.faults.specs.declared.Fault.TheVariants.{Malformed, NoSuchHut, Memory}
use Rattle.calls.specs.Call.{hut_count}
use Rattle.lines.specs.Line.{Lines, line, wrong}
use Rattle.rows.specs.declared.table.Rows.{Rows}
use Rattle.sets.specs.Set.{row_of}

abbrev pub huts : Rows → ℕ
huts rows = length (vec_items rows.of)

abbrev pub tells : List HutSet → Lines
tells sets i k = nat_lt i (length sets) && in_set (row_of sets i) k

unfoldable pub told : Rows → Lines
told rows = tells (vec_items rows.of)

-- no huts or more than 1,024; else a number that is left alone; else the first line that is wrong
abbrev pub early : ℕ → List ℕ → Option Fault
early n xs = cond (hut_count n) (cond (length xs % 2 == 1) (Some Malformed) (wrong n xs)) (Some NoSuchHut)

-- a row for each hut, and they tell the lines; else the fault, or want of memory where there is none
abbrev pub Rowed : ℕ → List ℕ → Result Rows Fault → Type 0
Rowed n xs (Ok rows) = (early n xs ≡ None) × (huts rows ≡ n) × (told rows ≡ line xs)
Rowed n xs (Err f) = f ≡ unwrap_or (early n xs) Memory
