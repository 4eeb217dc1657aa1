-- Whether all know everything, as a test. Assumes nothing.
--     all f n             every number below n passes the test f
--     all_know_test n cs  each of n huts knows what each of them saw, after the calls cs
use Rattle.std.specs.Prelude.{ℕ, zero, suc, Bool, true, ◌&&◌, List}
use Rattle.calls.specs.Call.{Call, knows}

unfoldable pub all : (ℕ → Bool) → ℕ → Bool
all f zero = true
all f (suc n) = f n && all f n

unfoldable pub all_know_test : ℕ → List Call → Bool
all_know_test n cs = all (λ i. all (λ k. knows cs i k) n) n
