-- Huts that call each other, and what they know. Assumes nothing.
--     hut_count n      n is a number of huts that there can be: 1 to 1,024, numbered from 0
--     Call             a call between two huts: hut a calls hut e
--     knows cs i k     hut i knows what hut k saw, after the calls cs
--     AllKnow n cs     each of the huts 0 to n - 1 knows what each of them saw: the list does it
--     among n cs       every call of cs is between two different huts below n
--     busy i cs        hut i is in one of the calls cs
--     Holds ps cs      cs has the calls ps in their order, with any others in between
-- A list of calls has the latest one first, so that one more call goes in front.
use Rattle.std.specs.Prelude.{ℕ, ◌<◌, Bool, true, false, cond, not, ◌&&◌, ◌||◌, T, List, [], ◌∷◌, ◌==◌, nat_le, nat_lt}

abbrev pub hut_count : ℕ → Bool
hut_count n = nat_le 1 n && nat_le n 1024

-- hut a calls hut e
pub record Call : Type 0 where
  pub a : ℕ
  pub e : ℕ

abbrev pub call : ℕ → ℕ → Call
call a e = record { a = a; e = e }

-- is hut i one of the two
abbrev pub with_either : ℕ → Call → Bool
with_either i c = i == c.a || i == c.e

-- At first each hut knows what it saw itself. In a call both learn all that the other knows, and nobody else learns anything.
unfoldable pub knows : List Call → ℕ → ℕ → Bool
knows [] i k = i == k
knows (c ∷ cs) i k = cond (with_either i c) (knows cs c.a k || knows cs c.e k) (knows cs i k)

-- every hut knows what every hut saw
abbrev pub AllKnow : ℕ → List Call → Type 0
AllKnow n cs = (i k : ℕ) → i < n → k < n → T (knows cs i k)

-- each call is between two huts that are there, and not of a hut with itself
unfoldable pub among : ℕ → List Call → Bool
among n [] = true
among n (c ∷ cs) = nat_lt c.a n && nat_lt c.e n && not (c.a == c.e) && among n cs

-- hut i is in one of the calls
unfoldable pub busy : ℕ → List Call → Bool
busy i [] = false
busy i (c ∷ cs) = with_either i c || busy i cs

-- the calls ps came about in their order; others may have come about before, between and after them
pub data Holds : List Call → List Call → Type 0 where
  none : {cs : List Call} → Holds [] cs
  same : {c : Call} {ps cs : List Call} → Holds ps cs → Holds (c ∷ ps) (c ∷ cs)
  more : {c : Call} {ps cs : List Call} → Holds ps cs → Holds ps (c ∷ cs)
