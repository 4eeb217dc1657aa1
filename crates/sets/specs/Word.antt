-- Words of 64 bits, given one by one: hut k is bit k % 64 of word k / 64. Assumes nothing.
--     bit w j            bit j of the word w
--     Tells P k b        hut k's bit is b, in a word that P allows for its place
--     LowestTold P f r   r is the lowest hut from f on whose bit is set, if there is one below 1,024
use Rattle.std.specs.Prelude.{◌≡◌, ℕ, ◌/◌, ◌%◌, ◌^◌, ◌<◌, ◌≤◌, Bool, true, false, Option, MatchOption, ◌==◌}

-- the bit is set
abbrev pub bit : ℕ → ℕ → Bool
bit w j = w / 2 ^ j % 2 == 1

-- such a word, and its bit
abbrev pub Tells : (ℕ → ℕ → Type 0) → ℕ → Bool → Type 0
Tells P k b = (w : ℕ) × P (k / 64) w × (bit w (k % 64) ≡ b)

-- hut r's bit is set and no hut's from f on before it, or none is
pub record LowestTold (P : ℕ → ℕ → Type 0) (f : ℕ) (r : Option ℕ) : Type 0 where
  pub lowest :
      MatchOption r
      ((k : ℕ) → f ≤ k → k < 1024 → Tells P k false)
      (λ h. (f ≤ h) × (h < 1024) × Tells P h true × ((k : ℕ) → f ≤ k → k < h → Tells P k false))
