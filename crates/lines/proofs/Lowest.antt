-- The lowest number that passes a test. Assumes nothing.
use Rattle.std.proofs.Common.{◌≡◌, ℕ, zero, suc, ◌<◌, ◌≤◌, Bool, true, false, inl, inr, arith}
use Rattle.std.proofs.lemmas.Bool.{both_ways, cases_Bool, cases_eq, cases_lt, cases_order}
use Rattle.std.proofs.lemmas.Bool.Decides.{nat_tests}
use Rattle.lines.specs.Way.{lowest, some}

-- r is the lowest number below n that passes the test, or n if none does
pub record Lowest (f : ℕ → Bool) (n r : ℕ) : Type 0 where
  pub bound : r ≤ n
  pub passes : r < n → f r ≡ true
  pub sooner : (k : ℕ) → k < r → f k ≡ false

pub lowest_is : (f : ℕ → Bool) (n : ℕ) → Lowest f n (lowest f n)
unfolding lowest
lowest_is f zero = record { bound = omega arith; passes = λ h. absurd (omega arith); sooner = λ k h. absurd (omega arith) }
lowest_is f (suc n) =
    let old = lowest_is f n in
    elim (cases_lt (lowest f n) n) [
      | inl found ↦
          let e : lowest f (suc n) ≡ lowest f n = grind (arith, nat_tests) in
          rw e (record { bound = omega arith; passes = λ h. old.passes found; sooner = old.sooner })
      | inr not_yet ↦
          let s : lowest f n ≡ n = omega arith in
          elim (cases_Bool (f n)) [
            | inl t ↦
                let e : lowest f (suc n) ≡ n = grind (arith, nat_tests) in
                rw e (record { bound = omega arith; passes = λ h. t; sooner = λ k h. old.sooner k (omega arith) })
            | inr t ↦
                let e : lowest f (suc n) ≡ suc n = grind (arith, nat_tests) in
                rw e
                (record {
                  bound = omega arith;
                  passes = λ h. absurd (omega arith);
                  sooner = λ k h. elim (cases_eq k n) [ inl last ↦ rw last t | inr other ↦ old.sooner k (omega arith) ];
                })
          ]
    ]

pub lowest_only : (f : ℕ → Bool) (n r s : ℕ) → Lowest f n r → Lowest f n s → r ≡ s
lowest_only f n r s p q =
    elim (cases_order r s) [
      | inl same ↦ same
      | inr apart ↦
          elim apart [
            | inl less ↦ absurd (both_ways (f r) (q.sooner r less) (p.passes (omega arith)))
            | inr more ↦ absurd (both_ways (f s) (p.sooner s more) (q.passes (omega arith)))
          ]
    ]

pub lowest_at : (f : ℕ → Bool) (n r : ℕ) → Lowest f n r → lowest f n ≡ r
lowest_at f n r p = lowest_only f n (lowest f n) r (lowest_is f n) p

-- a number that passes is not below the lowest
pub lowest_le : (f : ℕ → Bool) (n k : ℕ) → f k ≡ true → lowest f n ≤ k
lowest_le f n k t =
    elim (cases_lt k (lowest f n)) [ inl less ↦ absurd (both_ways (f k) ((lowest_is f n).sooner k less) t) | inr more ↦ more ]

pub some_from : (f : ℕ → Bool) (n k : ℕ) → k < n → f k ≡ true → some f n ≡ true
some_from f n k l t = let h = lowest_le f n k t in grind (arith, nat_tests)

pub none_from : (f : ℕ → Bool) (n : ℕ) → some f n ≡ false → (k : ℕ) → k < n → f k ≡ false
none_from f n s k l =
    elim (cases_Bool (f k)) [ inl t ↦ absurd (both_ways (some f n) s (some_from f n k l t)) | inr t ↦ t ]

pub some_at : (f : ℕ → Bool) (n : ℕ) → some f n ≡ true → (lowest f n < n) × (f (lowest f n) ≡ true)
some_at f n s = let l : lowest f n < n = grind (arith, nat_tests) in (l, (lowest_is f n).passes l)

-- tests that agree have the same lowest number
pub lowest_same : (f g : ℕ → Bool) (n : ℕ) → ((k : ℕ) → k < n → f k ≡ g k) → lowest f n ≡ lowest g n
lowest_same f g n same =
    let at = lowest_is g n in
    lowest_at f n (lowest g n)
    (record { bound = at.bound; passes = λ h. rw (same (lowest g n) h) (at.passes h); sooner = λ k h. rw (same k (omega arith)) (at.sooner k h) })
