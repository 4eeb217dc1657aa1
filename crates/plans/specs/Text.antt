-- A plan as it is printed: a call a line, the square, the number of calls. Assumes nothing.
use Rattle.std.specs.Prelude.{ℕ, ◌/◌, List, [], ◌∷◌, ◌++◌, Some, None, vec_items, vec_len, codes, decimal, Option}
use Rattle.plans.specs.declared.Plan.{Plan}
use Rattle.plans.specs.declared.Square.{Square}

abbrev pub call_line : ℕ → ℕ → List ℕ
call_line a e = decimal a ++ (codes " " ++ (decimal e ++ codes "\n"))

-- a call a line, the caller first
abbrev pub call_lines : List ℕ → List ℕ
call_lines [] = []
call_lines (a ∷ []) = []
call_lines (a ∷ e ∷ xs) = call_line a e ++ call_lines xs

abbrev pub square_shown : Square → List ℕ
square_shown s = codes "square " ++ (decimal s.a ++ (codes " " ++ (decimal s.b ++ (codes " " ++ (decimal s.c ++ (codes " " ++ decimal s.d))))))

abbrev pub middle_shown : Option Square → List ℕ
middle_shown None = codes "no square"
middle_shown (Some s) = square_shown s

-- a call a line, then the square, then how many calls there are
abbrev pub text_shown : List ℕ → Option Square → ℕ → List ℕ
text_shown xs square count = call_lines xs ++ ((middle_shown square ++ codes "\n") ++ (decimal count ++ codes " calls\n"))

abbrev pub plan_shown : Plan → List ℕ
plan_shown p = text_shown (vec_items p.calls) p.square (vec_len p.calls / 2)
