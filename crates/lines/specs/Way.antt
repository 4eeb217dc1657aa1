-- How many lines huts are apart. Assumes nothing.
--     lowest f n           the lowest number below n that passes the test f, or n if none does
--     some f n             some number below n passes the test f
--     within n l mid d i   hut i is at most d lines from the middle
--     distance n l mid i   how few lines hut i is from the middle; n if no way leads there
--     joined n l i         a way leads from hut i to hut 0
--     Way n l mid d i      a way of d lines from hut i to a hut of the middle
use Rattle.std.specs.Prelude.{◌≡◌, ℕ, zero, suc, ◌<◌, Bool, true, cond, ◌&&◌, ◌||◌, nat_eq, nat_lt}
use Rattle.lines.specs.Line.{Lines}

unfoldable pub lowest : (ℕ → Bool) → ℕ → ℕ
lowest f zero = zero
lowest f (suc n) = cond (nat_lt (lowest f n) n) (lowest f n) (cond (f n) n (suc n))

abbrev pub some : (ℕ → Bool) → ℕ → Bool
some f n = nat_lt (lowest f n) n

-- it is in the middle, or it has a neighbour that is at most a line less from there
unfoldable pub within : ℕ → Lines → (ℕ → Bool) → ℕ → ℕ → Bool
within n l mid zero i = mid i
within n l mid (suc d) i = within n l mid d i || some (λ k. l i k && within n l mid d k) n

unfoldable pub distance : ℕ → Lines → (ℕ → Bool) → ℕ → ℕ
distance n l mid i = lowest (λ d. within n l mid d i) n

abbrev pub joined : ℕ → Lines → ℕ → Bool
joined n l i = nat_lt (distance n l (nat_eq 0) i) n

-- none, from a hut of the middle; or a line to a neighbour, and a way from there
pub data Way (n : ℕ) (l : Lines) (mid : ℕ → Bool) : ℕ → ℕ → Type 0 where
  here : {i : ℕ} → mid i ≡ true → Way n l mid 0 i
  over : {d i k : ℕ} → l i k ≡ true → k < n → Way n l mid d k → Way n l mid (suc d) i
