use Rattle.std.proofs.Common.{◌≡◌, ℕ, ◌<◌, true, ◌||◌, length}
use Rattle.lines.specs.Line.{line}
use Rattle.rows.specs.Rows.{huts, told}
use Rattle.rows.proofs.add_lines.Given as goal

-- what stands in the rows and what is left make the lines, and those left are between huts that are there
abbrev pub invariant-loop-left : goal.invariant-loop-left
invariant-loop-left l = record {
  same : huts l.rows ≡ huts l.initial.rows;
  parts : (i k : ℕ) → (told l.rows i k || line l.left i k) ≡ (told l.initial.rows i k || line l.lines i k);
  there : (i k : ℕ) → line l.left i k ≡ true → i < huts l.rows;
}

abbrev pub decreases-loop-left : goal.decreases-loop-left
decreases-loop-left l = length l.left
