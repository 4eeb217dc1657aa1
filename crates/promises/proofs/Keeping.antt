-- The prescribed plan and the test of a list are what they must be. Assumes nothing.
use Rattle.std.proofs.Common.{◌≡◌, ℕ, ◌-◌, ◌*◌, ◌≤◌, true, List, length, is_some, Some, None, Option, arith}
use Rattle.std.proofs.lemmas.Bool.Decides.{nat_tests}
use Rattle.calls.specs.Call.{Call}
use Rattle.promises.proofs.All.{all_know_true, true_all_know}
use Rattle.plans.specs.declared.Square as plans
use Rattle.lines.specs.Line.{Lines}
use Rattle.lines.specs.Square.{Smallest, smallest}
use Rattle.lines.specs.Plan.{plan, Joins, Count}
use Rattle.lines.proofs.Laws.{joined_by_way, smallest-square}
use Rattle.lines.proofs.Main.{plan-does}
use Rattle.lines.proofs.Squares.{smallest_is}
use Rattle.promises.specs.Code.{Good, Square, Kept}

joins : (n : ℕ) (l : Lines) → Good n l → Joins n l
joins n l g = record { both = g.both; all = λ i li. let w = g.joined-all i li in (joined_by_way n l i li).joins w.0 w.1 }

-- the count of a plan with a square, and without
count_some : (n : ℕ) (o : Option plans.Square) (cs : List Call) → is_some o ≡ true → Count n o cs → length cs ≡ 2 * n - 4
count_some n None cs e h = absurd (grind arith)
count_some n (Some s) cs e h = h

-- four huts of the smallest square go round
goes_round : (n : ℕ) (l : Lines) (s : plans.Square) → Smallest n l (Some s) → Square n l
goes_round n l s h =
    let is = h.0.is in
    record {
      a = s.a;
      b = s.b;
      c = s.c;
      d = s.d;
      round =
          record {
            there = h.0.there;
            apart =
                (λ e. grind (arith, nat_tests), λ e. grind (arith, nat_tests), λ e. grind (arith, nat_tests), λ e. grind (arith, nat_tests), λ e. grind (arith, nat_tests), λ e. grind (arith, nat_tests));
            lines = (grind arith, grind arith, grind arith, grind arith);
          };
    }

count_none : (n : ℕ) (l : Lines) (o : Option plans.Square) (cs : List Call) → Smallest n l o → (Square n l → ⊥) → 2 ≤ n → Count n o cs → length cs ≡ 2 * n - 3
count_none n l None cs q no_square two h = h two
count_none n l (Some s) cs q no_square two h = absurd (no_square (goes_round n l s q))

pub kept : Kept
kept n =
    record {
      on_lines = λ l g. let d = plan-does n l (joins n l g) in let among = d.apart in let along = d.on_lines in (grind (arith, nat_tests), d.all_know);
      with_square =
          λ l g two s.
          count_some n (smallest n l) (plan n l) ((smallest-square n l).found g.both s.a s.b s.c s.d s.round) (plan-does n l (joins n l g)).count;
      without = λ l g two no_square. count_none n l (smallest n l) (plan n l) (smallest_is n l) no_square two (plan-does n l (joins n l g)).count;
      checks = λ cs among. (true_all_know n cs, all_know_true n cs);
    }
