-- That all know everything, as a test. Assumes nothing.
use Rattle.std.proofs.Common.{◌≡◌, ℕ, zero, suc, ◌<◌, Bool, true, List, refl, inl, inr, arith}
use Rattle.std.proofs.lemmas.Bool.{cases_eq}
use Rattle.std.proofs.lemmas.Bool.Decides.{nat_tests}
use Rattle.calls.specs.Call.{Call, knows, AllKnow}
use Rattle.promises.specs.All.{all, all_know_test}

all_from : (f : ℕ → Bool) (n : ℕ) → ((k : ℕ) → k < n → f k ≡ true) → all f n ≡ true
unfolding all
all_from f zero h = refl
all_from f (suc n) h = let before = all_from f n (λ k l. h k (omega arith)) in let last = h n (omega arith) in grind arith

all_at : (f : ℕ → Bool) (n : ℕ) → all f n ≡ true → (k : ℕ) → k < n → f k ≡ true
unfolding all
all_at f zero h k l = absurd (omega arith)
all_at f (suc n) h k l = elim (cases_eq k n) [ inl last ↦ rw last (grind arith) | inr other ↦ all_at f n (grind arith) k (omega arith) ]

pub all_know_true : (n : ℕ) (cs : List Call) → AllKnow n cs → all_know_test n cs ≡ true
unfolding all_know_test
all_know_true n cs h = all_from (λ i. all (λ k. knows cs i k) n) n (λ i li. all_from (λ k. knows cs i k) n (λ k lk. let t = h i k li lk in grind (arith, nat_tests)))

pub true_all_know : (n : ℕ) (cs : List Call) → all_know_test n cs ≡ true → AllKnow n cs
unfolding all_know_test
true_all_know n cs h i k li lk =
    let t = all_at (λ k. knows cs i k) n (all_at (λ i. all (λ k. knows cs i k) n) n h i li) k lk in
    grind (arith, nat_tests)
