-- Words for lists of huts. Assumes nothing.
--     times x xs       how often x stands in xs
--     every f xs       each of xs passes the test f
--     comes f r s      r comes before s: it is nearer by f, or as near and lower
--     sorted f xs      each of xs comes before all that stand after it
use Rattle.std.specs.Prelude.{ℕ, ◌+◌, Bool, true, cond, ◌&&◌, ◌||◌, List, [], ◌∷◌, ◌==◌, nat_lt}

unfoldable pub times : ℕ → List ℕ → ℕ
times x [] = 0
times x (y ∷ ys) = cond (x == y) 1 0 + times x ys

unfoldable pub every : (ℕ → Bool) → List ℕ → Bool
every f [] = true
every f (x ∷ xs) = f x && every f xs

abbrev pub comes : (ℕ → ℕ) → ℕ → ℕ → Bool
comes f r s = nat_lt (f r) (f s) || (f r == f s && nat_lt r s)

unfoldable pub sorted : (ℕ → ℕ) → List ℕ → Bool
sorted f [] = true
sorted f (r ∷ rs) = every (comes f r) rs && sorted f rs
