-- Lists of lines between huts. Assumes nothing.
--     Lines                 which huts have a line between them
--     line xs               the lines that the numbers xs stand for, two numbers each: a line goes both ways
--     after p q a e         the line a, e comes after the line p, q in a list that rises
--     fault_of n p q a e    the fault of the line a, e among n huts, where the line before it was p, q, if it has one
--     wrong_after n p q xs  the fault of the first line of xs that is wrong among n huts, where the line before it was p, q
--     wrong n xs            the same from the start of a list
use Rattle.std.specs.Prelude.{ℕ, Bool, false, cond, ◌&&◌, ◌||◌, List, [], ◌∷◌, Some, None, Option, ◌==◌, nat_lt}
use Rattle.faults.specs.declared.Fault.{Fault}
use Rattle.faults.specs.declared.Fault.TheVariants.{NoSuchHut, Unsorted}

abbrev pub Lines : Type 0
Lines = ℕ → ℕ → Bool

unfoldable pub line : List ℕ → Lines
line [] i k = false
line (a ∷ []) i k = false
line (a ∷ e ∷ xs) i k = ((i == a && k == e) || (i == e && k == a)) || line xs i k

-- its lower hut is higher, or that is the same and its other hut is higher
abbrev pub after : ℕ → ℕ → ℕ → ℕ → Bool
after p q a e = nat_lt p a || (p == a && nat_lt q e)

-- a hut that isn't there; else a line of a hut with itself, with the lower hut last, or that doesn't come after the one before it
abbrev pub fault_of : ℕ → ℕ → ℕ → ℕ → ℕ → Option Fault
fault_of n p q a e = cond (nat_lt a n && nat_lt e n) (cond (nat_lt a e && after p q a e) None (Some Unsorted)) (Some NoSuchHut)

-- the first fault, or else the second
abbrev pub or_else : Option Fault → Option Fault → Option Fault
or_else None g = g
or_else (Some f) g = Some f

unfoldable pub wrong_after : ℕ → ℕ → ℕ → List ℕ → Option Fault
wrong_after n p q [] = None
wrong_after n p q (a ∷ []) = None
wrong_after n p q (a ∷ e ∷ xs) = or_else (fault_of n p q a e) (wrong_after n a e xs)

-- the first line may be any
abbrev pub wrong : ℕ → List ℕ → Option Fault
wrong n xs = wrong_after n 0 0 xs
