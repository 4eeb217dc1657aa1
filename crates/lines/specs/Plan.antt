-- The plan for huts with missing lines. Assumes nothing.
--     gather p rs       from the last of the row rs to the first, each calls its partner
--     spread p rs cs    the calls cs, and then from the first of the row rs to the last each partner calls its hut
--     round s           a calls b, c calls d, then a calls d, b calls c
--     middle s          the four huts of the square, or hut 0 where there is none
--     plan_for n l o    the calls with the square o in the middle, or without one
--     plan n l          the whole: with the smallest square, if there is one
--     Joins n l         the lines go both ways and join all huts
--     Does n l o cs     the calls cs are along the lines, bring everything to everybody, and are as many as with the square o, or without
-- As in every list of calls the latest one stands first.
use Rattle.std.specs.Prelude.{◌≡◌, ℕ, ◌-◌, ◌*◌, ◌<◌, ◌≤◌, Bool, true, ◌&&◌, ◌||◌, T, List, [], ◌∷◌, ◌++◌, length, drop, Some, None, Option, ◌==◌}
use Rattle.calls.specs.Call.{Call, call, AllKnow, among, Holds}
use Rattle.plans.specs.declared.Square.{Square}
use Rattle.lines.specs.Line.{Lines}
use Rattle.lines.specs.Way.{joined}
use Rattle.lines.specs.Row.{row, partner}
use Rattle.lines.specs.Square.{smallest}

-- each call is along a line
unfoldable pub along : Lines → List Call → Bool
along l [] = true
along l (c ∷ cs) = l c.a c.e && along l cs

unfoldable pub gather : (ℕ → ℕ) → List ℕ → List Call
gather p [] = []
gather p (r ∷ rs) = call r (p r) ∷ gather p rs

unfoldable pub spread : (ℕ → ℕ) → List ℕ → List Call → List Call
spread p [] cs = cs
spread p (r ∷ rs) cs = spread p rs (call (p r) r ∷ cs)

abbrev pub round : Square → List Call
round s = call s.b s.c ∷ (call s.a s.d ∷ (call s.c s.d ∷ (call s.a s.b ∷ [])))

abbrev pub middle : Option Square → ℕ → Bool
middle None i = 0 == i
middle (Some s) i = s.a == i || (s.b == i || (s.c == i || s.d == i))

-- with a square: all call their partners, the four go round, all partners call their huts;
-- without: the call of the first of the row does for both ways
abbrev pub plan_with : (p : ℕ → ℕ) (rs : List ℕ) → Option Square → List Call
plan_with p rs None = spread p (drop 1 rs) (gather p rs)
plan_with p rs (Some s) = spread p rs (round s ++ gather p rs)

abbrev pub plan_for : ℕ → Lines → Option Square → List Call
plan_for n l o = plan_with (partner n l (middle o)) (row n l (middle o)) o

unfoldable pub plan : ℕ → Lines → List Call
plan n l = plan_for n l (smallest n l)

-- lines that go both ways and join all huts to hut 0
pub record Joins (n : ℕ) (l : Lines) : Type 0 where
  pub both : (i k : ℕ) → l i k ≡ l k i
  pub all : (i : ℕ) → i < n → joined n l i ≡ true

-- how many calls there are: 2n - 4 with a square, 2n - 3 without
abbrev pub Count : ℕ → Option Square → List Call → Type 0
Count n None cs = 2 ≤ n → length cs ≡ 2 * n - 3
Count n (Some s) cs = length cs ≡ 2 * n - 4

-- what a plan is for: its calls are along lines, between different huts, and bring everything to everybody, with any others in between too
pub record Does (n : ℕ) (l : Lines) (o : Option Square) (cs : List Call) : Type 0 where
  pub apart : T (among n cs)
  pub on_lines : T (along l cs)
  pub all_know : AllKnow n cs
  pub with_others : (ds : List Call) → Holds cs ds → AllKnow n ds
  pub count : Count n o cs
