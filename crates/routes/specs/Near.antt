-- The neighbour of a hut that is nearest to the middle, by a list of distances. Assumes nothing.
--     near nb ds m k          hut k is a neighbour, in the set nb, that is less than m lines from the middle
--     Nearer nb ds m o        o is the lowest such hut, or there is none
--     Nearest nb ds b r       r is the nearest of hut b and the neighbours, the lowest of those that are as near unless it is b
--     IsTied rows ds t        the partner that a hut is tied to is that neighbour of it
--     Partners rows ds rs ts  ts has such a neighbour for each hut of rs
use Rattle.std.specs.Prelude.{◌≡◌, ℕ, ◌<◌, Bool, true, false, ◌&&◌, ◌⊎◌, List, map, length, Some, None, Option, ◌≢◌, nat_lt, slice_index, slice_index_or, vec_items}
use Rattle.std.specs.List.{All}
use Rattle.sets.specs.declared.HutSet.{HutSet}
use Rattle.sets.specs.Set.{in_set, row_of}
use Rattle.rows.specs.declared.table.Rows.{Rows}
use Rattle.routes.specs.declared.Tied.{Tied}

abbrev pub near : HutSet → List ℕ → ℕ → ℕ → Bool
near nb ds m k = nat_lt (slice_index ds k) m && in_set nb k

abbrev pub Nearer : HutSet → List ℕ → ℕ → Option ℕ → Type 0
Nearer nb ds m None = (k : ℕ) → k < length ds → near nb ds m k ≡ false
Nearer nb ds m (Some k) = (k < length ds) × (near nb ds m k ≡ true) × ((j : ℕ) → j < k → near nb ds m j ≡ false)

pub record Nearest (nb : HutSet) (ds : List ℕ) (b r : ℕ) : Type 0 where
  pub there : r < length ds
  pub is : (r ≡ b) ⊎ (near nb ds (slice_index ds b) r ≡ true)
  pub none_nearer : (j : ℕ) → j < length ds → near nb ds (slice_index ds r) j ≡ false
  pub lowest : slice_index_or ds r 0 < slice_index ds b → (j : ℕ) → j < r → in_set nb j ≡ true → slice_index ds j ≢ slice_index ds r

-- the partner that a hut is tied to is that neighbour of it
abbrev pub IsTied : Rows → List ℕ → Tied → Type 0
IsTied rows ds t = Nearest (row_of (vec_items rows.of) t.hut) ds t.hut t.partner

-- ts has the huts of rs, in the same order, each with its partner
pub record Partners (rows : Rows) (ds rs : List ℕ) (ts : List Tied) : Type 0 where
  pub same : map (λ t. t.hut) ts ≡ rs
  pub each : All (IsTied rows ds) ts
