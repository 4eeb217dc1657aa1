-- What can be wrong with a list of calls, where some lines are missing. Assumes nothing.
--     fault_of n l a e      the fault of the call of hut a to hut e among n huts with the lines l, if it has one
--     wrong_call n l ys     the fault of the first call of ys that is wrong
--     call_fault n l m ys   the fault for which the calls ys, which say that they are for m huts, are refused, if there is one
use Rattle.std.specs.Prelude.{ℕ, ◌/◌, ◌%◌, cond, ◌&&◌, List, [], ◌∷◌, length, Some, None, Option, ◌==◌, nat_lt}
use Rattle.faults.specs.declared.Fault.{Fault}
use Rattle.faults.specs.declared.Fault.TheVariants.{Malformed, NoSuchHut, NoLine, TooLong}
use Rattle.lines.specs.Line.{Lines, or_else}

-- a hut that isn't there; else no line between the two: a hut has none to itself
abbrev pub fault_of : ℕ → Lines → ℕ → ℕ → Option Fault
fault_of n l a e = cond (nat_lt a n && nat_lt e n) (cond (l a e) None (Some NoLine)) (Some NoSuchHut)

unfoldable pub wrong_call : ℕ → Lines → List ℕ → Option Fault
wrong_call n l [] = None
wrong_call n l (a ∷ []) = None
wrong_call n l (a ∷ e ∷ ys) = or_else (fault_of n l a e) (wrong_call n l ys)

-- another number of huts; else a number that is left alone; else more than 4,096 calls; else the first call that is wrong
abbrev pub call_fault : ℕ → Lines → ℕ → List ℕ → Option Fault
call_fault n l m ys =
    cond (m == n) (cond (length ys % 2 == 1) (Some Malformed) (cond (nat_lt 4096 (length ys / 2)) (Some TooLong) (wrong_call n l ys))) (Some NoSuchHut)
