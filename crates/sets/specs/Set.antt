-- Sets of huts as bits of words: hut k is bit k % 64 of word k / 64. Assumes nothing.
--     in_set s k             hut k is in the set s
--     Lowest n s r           r is the lowest hut below n that is not in the set, or n if there is none
--     LowestMissing n s r    the same, where r is None if there is none
--     Meets s t f r          r says whether some hut from f on is in both sets
--     Next s f r             r is the lowest hut of the set from f on, or 1,024 if there is none
--     NextHut s f r          the same, where r is None if there is none
--     huts_from s f          the huts of the set from f on, rising
--     huts_left h            the huts that an iterator over a set has yet to give
--     row_of rows i          the set of hut i
-- There are 1,024 huts at most, so a hut from 1,024 on is in no set.
use Rattle.std.specs.Prelude.{◌≡◌, ℕ, ◌/◌, ◌%◌, ◌^◌, ◌<◌, ◌≤◌, Bool, true, false, ◌&&◌, T, ◌-◌, List, [], Option, MatchBool, MatchOption, ◌==◌, nat_lt, slice_index, slice_index_or, filter}
use Rattle.std.specs.List.{range_with_len}
use Rattle.sets.specs.declared.HutSet.{HutSet}
use Rattle.sets.specs.declared.Huts.{Huts}

-- the bit of hut k is set
unfoldable pub has : List ℕ → ℕ → Bool
has ws k = slice_index ws (k / 64) / 2 ^ (k % 64) % 2 == 1

-- hut k is there, and its bit is set
unfoldable pub in_set : HutSet → ℕ → Bool
in_set s k = nat_lt k 1024 && has s.words k

-- every hut below r is in the set, and r is not, unless it is n
pub record Lowest (n : ℕ) (s : HutSet) (r : ℕ) : Type 0 where
  pub within : r ≤ n
  pub before : (k : ℕ) → k < r → T (in_set s k)
  pub lacks : r < n → in_set s r ≡ false

-- such a hut, or there is none
abbrev pub LowestMissing : ℕ → HutSet → Option ℕ → Type 0
LowestMissing n s r = MatchOption r (Lowest n s n) (λ k. (k < n) × Lowest n s k)

-- a hut from f on that is in both sets
pub record Common (s t : HutSet) (f : ℕ) : Type 0 where
  pub hut : ℕ
  pub since : f ≤ hut
  pub one : in_set s hut ≡ true
  pub other : in_set t hut ≡ true

-- there is such a hut, or none is
abbrev pub Meets : HutSet → HutSet → ℕ → Bool → Type 0
Meets s t f r = MatchBool r (Common s t f) ((k : ℕ) → f ≤ k → (in_set s k && in_set t k) ≡ false)

-- r is in the set unless it is 1,024, and no hut from f on before it is
pub record Next (s : HutSet) (f r : ℕ) : Type 0 where
  pub within : r ≤ 1024
  pub is : r < 1024 → (f ≤ r) × (in_set s r ≡ true)
  pub none_between : (k : ℕ) → f ≤ k → k < r → in_set s k ≡ false

-- such a hut, or there is none
abbrev pub NextHut : HutSet → ℕ → Option ℕ → Type 0
NextHut s f r = MatchOption r (Next s f 1024) (λ k. (k < 1024) × Next s f k)

-- those of the numbers from f up to 1,023 that are in the set
abbrev pub huts_from : HutSet → ℕ → List ℕ
huts_from s f = filter (in_set s) (range_with_len f (1024 - f))

-- those of its set from where it goes on
abbrev pub huts_left : Huts → List ℕ
huts_left h = huts_from h.set.now h.from

-- the set of hut i; past the last hut there is none
abbrev pub row_of : List HutSet → ℕ → HutSet
row_of rows i = slice_index_or rows i (record { words = [] })
