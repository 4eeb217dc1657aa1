-- What a program that plans and a program that checks a list must be, over lines of any kind. Assumes nothing.
--     Good n l                  lines that go both ways and join all of n huts to hut 0
--     Square n l                four different huts with lines round a square
--     Code n plan_for all_know  plan_for gives a plan for all such lines, and all_know tells whether a list of calls does it
use Rattle.std.specs.Prelude.{◌≡◌, ℕ, ◌-◌, ◌*◌, ◌<◌, ◌≤◌, Bool, true, ◌&&◌, T, List, length, nat_eq}
use Rattle.calls.specs.Call.{Call, AllKnow, among}
use Rattle.promises.specs.All.{all_know_test}
use Rattle.lines.specs.Line.{Lines}
use Rattle.lines.specs.Way.{Way}
use Rattle.lines.specs.Square.{Round}
use Rattle.lines.specs.Plan.{along, plan}

pub record Good (n : ℕ) (l : Lines) : Type 0 where
  pub both : (i k : ℕ) → l i k ≡ l k i
  pub joined-all : (i : ℕ) → i < n → (d : ℕ) × Way n l (nat_eq 0) d i

pub record Square (n : ℕ) (l : Lines) : Type 0 where
  pub a : ℕ
  pub b : ℕ
  pub c : ℕ
  pub d : ℕ
  pub round : Round n l a b c d

pub record Code (n : ℕ) (plan_for : Lines → List Call) (all_know : List Call → Bool) : Type 0 where
  pub on_lines : (l : Lines) → Good n l → T (among n (plan_for l) && along l (plan_for l)) × AllKnow n (plan_for l)
  pub with_square : (l : Lines) → Good n l → 2 ≤ n → Square n l → length (plan_for l) ≡ 2 * n - 4
  pub without : (l : Lines) → Good n l → 2 ≤ n → (Square n l → ⊥) → length (plan_for l) ≡ 2 * n - 3
  pub checks : (cs : List Call) → T (among n cs) → (all_know cs ≡ true → AllKnow n cs) × (AllKnow n cs → all_know cs ≡ true)

-- The plan and the test that the contracts of the programs' functions cite are such.
abbrev pub Kept : Type 0
Kept = (n : ℕ) → Code n (plan n) (all_know_test n)
