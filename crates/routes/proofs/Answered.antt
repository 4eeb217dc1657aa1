-- Lists of lines that are refused, and those that are answered. Assumes nothing.
use Rattle.std.proofs.Common.{◌≡◌, ℕ, ◌-◌, ◌<◌, ◌≤◌, true, false, not, ◌&&◌, eqb, ltb, List, Some, None, Ok, Err, Option, Result, inl, inr, arith, MatchResult}
use Rattle.std.proofs.lemmas.Bool.Decides.{nat_tests}
use Rattle.std.proofs.lemmas.Bool.{cases_Bool, cond-true, cond-false}
use Rattle.faults.specs.declared.Fault.{Fault}
use Rattle.faults.specs.declared.Fault.TheVariants.{NotJoined, Memory}
use Rattle.plans.specs.declared.Plan.{Plan}
use Rattle.sets.specs.declared.HutSet.{HutSet}
use Rattle.sets.specs.Set.{in_set, Lowest, LowestMissing}
use Rattle.lines.specs.Line.{line}
use Rattle.lines.specs.Way.{joined}
use Rattle.lines.specs.Plan.{Joins}
use Rattle.lines.proofs.Lines.{line-both, or_else_none}
use Rattle.lines.proofs.Lowest.{some_from}
use Rattle.rows.specs.declared.table.Rows.{Rows}
use Rattle.rows.specs.Rows.{huts, told, early}
use Rattle.routes.specs.declared.reaching.Reach.{Reach}
use Rattle.rows.proofs.Lines.{early_none}
use Rattle.routes.specs.Answer.{alone, apart, refusal, Planned, Answers}
use Rattle.routes.specs.Reach.{Reached}
use Rattle.routes.proofs.Planned.{reached_by, all-joined, alone_is, told-both, told-apart}

-- the set of just hut 0, which is below 1,024
just_zero : (z : HutSet) → ((k : ℕ) → in_set z k ≡ (eqb 0 k && ltb k 1024)) → (k : ℕ) → in_set z k ≡ eqb 0 k
just_zero z zeroth k = let e = zeroth k in grind (arith, nat_tests)

-- the same where the number of huts is another word for n
pub missing : (n h : ℕ) (s : HutSet) (o : Option ℕ) → h ≡ n → LowestMissing h s o → LowestMissing n s o
missing n h s o e low = rw e at low

module _ (n : ℕ) (xs : List ℕ) (rows : Rows) (fine : early n xs ≡ None) (size : huts rows ≡ n) (lined : told rows ≡ line xs) where
  module _ (z : HutSet) (x : Reach) (r : ℕ) (zeroth : (k : ℕ) → in_set z k ≡ (eqb 0 k && ltb k 1024)) (at : Reached rows (in_set z) (huts rows - 1) x) (low : Lowest n x.huts r) where
    pub from_zero : Reached rows (eqb 0) (huts rows - 1) x
    from_zero = reached_by rows z (eqb 0) (huts rows - 1) x (just_zero z zeroth) at

    low_row : Lowest (huts rows) x.huts r
    low_row = rw size low

    is_alone : alone n (line xs) ≡ r
    is_alone = rw (size, lined) at (alone_is rows x r from_zero low_row)

    -- the lowest hut that is not reached is the refusal
    pub alone_refused : r < n → refusal n xs ≡ Some (NotJoined r)
    alone_refused l =
        let t : ltb r n ≡ true = grind (arith, nat_tests) in
        rw (fine, is_alone) (cond-true (ltb r n) (Some (NotJoined r)) None t)

    -- where there is none, nothing is refused
    pub none_refused : n ≤ r → refusal n xs ≡ None
    none_refused l =
        let f : ltb r n ≡ false = grind (arith, nat_tests) in
        rw (fine, is_alone) (cond-false (ltb r n) (Some (NotJoined r)) None f)

    pub rows_join : n ≤ r → Joins (huts rows) (told rows)
    rows_join l = record { both = told-both rows xs lined; all = all-joined rows x r from_zero low_row (omega arith) }

  pub rows_apart : (i : ℕ) → told rows i i ≡ false
  rows_apart = told-apart rows xs n lined (early_none n xs fine).2

  pub answers : refusal n xs ≡ None → (a : Result Plan Fault) → MatchResult a (λ p. Planned (huts rows) (told rows) p) (λ f. f ≡ Memory) → Answers n xs a
  answers ok (Ok p) h = (ok, rw (size, lined) at h)
  answers ok (Err f) h = inr (h, fine)

-- lines that are not refused join all huts
pub not_refused : (n : ℕ) (xs : List ℕ) → refusal n xs ≡ None → Joins n (line xs)
not_refused n xs h =
    record {
      both = line-both xs;
      all =
          λ i li.
          elim (cases_Bool (joined n (line xs) i)) [
            | inl t ↦ t
            | inr f ↦
                let found : ltb (alone n (line xs)) n ≡ true = some_from (λ k. not (joined n (line xs) k)) n i li (grind arith) in
                let z : ◌≡◌ {A = ℕ} 0 1 = let parts = or_else_none (early n xs) (apart n (line xs)) h in let second = rw found at parts.1 in cc in
                absurd (omega arith)
          ];
    }
