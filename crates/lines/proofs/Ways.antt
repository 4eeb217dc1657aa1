-- How many lines huts are from the middle: by ways, and by what is reached after so many lines. Assumes nothing.
use Rattle.std.proofs.Common.{◌≡◌, ℕ, zero, suc, ◌+◌, ◌-◌, ◌<◌, ◌≤◌, Bool, true, false, not, ◌&&◌, ◌||◌, eqb, ltb, ◌⊎◌, refl, inl, inr, arith}
use Rattle.std.proofs.lemmas.Bool.{both_ways, cases_Bool, cases_eq}
use Rattle.std.proofs.lemmas.Bool.Decides.{nat_tests}
use Rattle.fewest.proofs.Counts.{how_many, all_or_one}
use Rattle.lines.specs.Line.{Lines}
use Rattle.lines.specs.Way.{lowest, some, within, distance, Way, here, over}
use Rattle.lines.proofs.Lowest.{lowest_is, lowest_le, some_from, some_at}

many_le : (f : ℕ → Bool) (n : ℕ) → how_many f n ≤ n
unfolding how_many
many_le f zero = omega arith
many_le f (suc n) = let rest = many_le f n in grind arith

many_mono : (f g : ℕ → Bool) (n : ℕ) → ((k : ℕ) → f k ≡ true → g k ≡ true) → how_many f n ≤ how_many g n
unfolding how_many
many_mono f g zero h = omega arith
many_mono f g (suc n) h = let rest = many_mono f g n h in let one = h n in grind arith

-- one more passes
many_more : (f g : ℕ → Bool) (n i : ℕ) → ((k : ℕ) → f k ≡ true → g k ≡ true) → i < n → f i ≡ false → g i ≡ true → how_many f n < how_many g n
unfolding how_many
many_more f g zero i h l no-f yes-g = absurd (omega arith)
many_more f g (suc n) i h l no-f yes-g =
    elim (cases_eq i n) [
      | inl last ↦
          let rest = many_mono f g n h in
          let f' : f n ≡ false = rw last at no-f in
          let g' : g n ≡ true = rw last at yes-g in
          grind arith
      | inr other ↦ let rest = many_more f g n i h (omega arith) no-f yes-g in let one = h n in grind arith
    ]

module _ (n : ℕ) (l : Lines) (mid : ℕ → Bool) where
  within_more : (d i : ℕ) → within n l mid d i ≡ true → within n l mid (suc d) i ≡ true
  unfolding within
  within_more d i t = grind arith

  pub within_later : (d e i : ℕ) → within n l mid d i ≡ true → within n l mid (e + d) i ≡ true
  within_later d zero i t = let s : zero + d ≡ d = omega arith in rw s t
  within_later d (suc e) i t = let s : suc e + d ≡ suc (e + d) = omega arith in rw s (within_more (e + d) i (within_later d e i t))

  -- a neighbour of what is reached is reached with a line more
  pub within_over : (d i k : ℕ) → l i k ≡ true → k < n → within n l mid d k ≡ true → within n l mid (suc d) i ≡ true
  unfolding within
  within_over d i k line lk t = let s = some_from (λ j. l i j && within n l mid d j) n k lk (grind arith) in grind arith

  -- what is reached with the last line has a neighbour that was reached before
  pub within_by : (d i : ℕ) → within n l mid (suc d) i ≡ true → within n l mid d i ≡ false → (k : ℕ) × (k < n) × (l i k ≡ true) × (within n l mid d k ≡ true)
  unfolding within
  within_by d i t f =
      let s : some (λ k. l i k && within n l mid d k) n ≡ true = grind arith in
      let at = some_at (λ k. l i k && within n l mid d k) n s in
      let both = at.1 in
      (lowest (λ k. l i k && within n l mid d k) n, at.0, grind arith, grind arith)

  pub way_within : {d i : ℕ} → Way n l mid d i → within n l mid d i ≡ true
  unfolding within
  way_within (here m) = m
  way_within (over {d} {i} {k} line lk w) = within_over d i k line lk (way_within w)

  pub within_way : (d i : ℕ) → within n l mid d i ≡ true → (e : ℕ) × (e ≤ d) × Way n l mid e i
  unfolding within
  within_way zero i t = (0, omega arith, here t)
  within_way (suc d) i t =
      elim (cases_Bool (within n l mid d i)) [
        | inl before ↦ let w = within_way d i before in (w.0, omega arith, w.2)
        | inr not-before ↦
            let k = within_by d i t not-before in
            let w = within_way d k.0 k.3 in
            (suc w.0, omega arith, over k.2 k.1 w.2)
      ]

  -- a line more reaches nobody new
  abbrev Closed : ℕ → Type 0
  Closed d = (i : ℕ) → i < n → within n l mid (suc d) i ≡ true → within n l mid d i ≡ true

  -- and then so do any number
  closed_on : (d e : ℕ) → Closed d → (i : ℕ) → i < n → within n l mid (e + d) i ≡ true → within n l mid d i ≡ true
  closed_on d zero c i li t = let s : zero + d ≡ d = omega arith in rw s at t
  closed_on d (suc e) c i li t =
      let s : suc e + d ≡ suc (e + d) = omega arith in
      let t' : within n l mid (suc (e + d)) i ≡ true = rw s at t in
      elim (cases_Bool (within n l mid (e + d) i)) [
        | inl before ↦ closed_on d e c i li before
        | inr not-before ↦
            let k = within_by (e + d) i t' not-before in
            c i li (within_over d i k.0 k.2 k.1 (closed_on d e c k.0 k.1 k.3))
      ]

  -- after d lines either some line fewer had reached nobody new, or more than d huts are reached
  grows : (m : ℕ) → m < n → mid m ≡ true → (d : ℕ) → ((e : ℕ) × (e < d) × Closed e) ⊎ (d < how_many (within n l mid d) n)
  unfolding within how_many
  grows m lm t zero =
      let none = many_more (λ _. false) mid n m (λ k p. absurd (grind arith)) lm refl t in
      inr (omega arith)
  grows m lm t (suc d) =
      elim (grows m lm t d) [
        | inl closed ↦ inl (closed.0, omega arith, closed.2)
        | inr many ↦
            elim (all_or_one (λ i. not (within n l mid (suc d) i) || within n l mid d i) n) [
              | inl all ↦ inl (d, omega arith, λ i li u. let a = all i li in grind arith)
              | inr one ↦
                  let out = one.2 in
                  let more =
                  many_more (within n l mid d) (within n l mid (suc d)) n one.0 (λ k. within_more d k) one.1 (grind arith) (grind arith)
                  in
                  inr (omega arith)
            ]
      ]

  closes : (m : ℕ) → m < n → mid m ≡ true → (e : ℕ) × (e < n) × Closed e
  closes m lm t =
      elim (grows m lm t n) [ inl closed ↦ closed | inr many ↦ let few = many_le (within n l mid n) n in absurd (omega arith) ]

  -- a hut that is reached with d lines is no more than d lines away
  pub distance_le : (d i : ℕ) → within n l mid d i ≡ true → distance n l mid i ≤ d
  unfolding distance
  distance_le d i t = lowest_le (λ e. within n l mid e i) n d t

  pub distance_bound : (i : ℕ) → distance n l mid i ≤ n
  unfolding distance
  distance_bound i = (lowest_is (λ e. within n l mid e i) n).bound

  -- a hut to which a way leads at all is less than n lines away
  pub distance-below : (m : ℕ) → m < n → mid m ≡ true → (d i : ℕ) → i < n → within n l mid d i ≡ true → distance n l mid i < n
  distance-below m lm t d i li u =
      let c = closes m lm t in
      let e : ℕ = c.0 in
      let later : within n l mid (d + e) i ≡ true = let s : d + e ≡ e + d = omega arith in rw s (within_later d e i u) in
      let h = distance_le e i (closed_on e d c.2 i li later) in
      omega arith

  pub distance-reached : (i : ℕ) → distance n l mid i < n → within n l mid (distance n l mid i) i ≡ true
  unfolding distance
  distance-reached i h = (lowest_is (λ e. within n l mid e i) n).passes h

  pub distance_sooner : (i d : ℕ) → d < distance n l mid i → within n l mid d i ≡ false
  unfolding distance
  distance_sooner i d h = (lowest_is (λ e. within n l mid e i) n).sooner d h

  -- what is reached with d lines, d below n: the huts that are no more than d lines away
  pub within-distance : (d i : ℕ) → d < n → within n l mid d i ≡ not (ltb d (distance n l mid i))
  within-distance d i ld =
      elim (cases_Bool (within n l mid d i)) [
        | inl t ↦ let h = distance_le d i t in grind (arith, nat_tests)
        | inr f ↦
            elim (cases_Bool (ltb d (distance n l mid i))) [
              | inl far ↦ grind arith
              | inr near ↦
                  let le : distance n l mid i ≤ d = grind (arith, nat_tests) in
                  let r = distance-reached i (omega arith) in
                  let s : (d - distance n l mid i) + distance n l mid i ≡ d = omega arith in
                  let t : within n l mid d i ≡ true = rw s at (within_later (distance n l mid i) (d - distance n l mid i) i r) in
                  absurd (both_ways (within n l mid d i) f t)
            ]
      ]

  -- exactly d lines away: reached with d lines, and not with one fewer
  pub at_distance : (d i : ℕ) → suc d < n → eqb (distance n l mid i) (suc d) ≡ (within n l mid (suc d) i && not (within n l mid d i))
  at_distance d i h =
      let a = within-distance (suc d) i h in
      let b = within-distance d i (omega arith) in
      rw (a, b) (grind (arith, nat_tests))

  -- the huts of the middle are those that are no line away
  pub distance-middle : (i : ℕ) → 0 < n → eqb (distance n l mid i) 0 ≡ mid i
  unfolding within
  distance-middle i h = let a = within-distance 0 i h in grind (arith, nat_tests)

  -- neighbours differ by no more than a line
  pub distance_over : (i k : ℕ) → l i k ≡ true → k < n → distance n l mid k < n → distance n l mid i ≤ suc (distance n l mid k)
  distance_over i k line lk h = distance_le (suc (distance n l mid k)) i (within_over (distance n l mid k) i k line lk (distance-reached k h))

  -- outside the middle there is a neighbour that is nearer by a line
  pub nearer : (i : ℕ) → 0 < distance n l mid i → distance n l mid i < n → (k : ℕ) × (k < n) × (l i k ≡ true) × (suc (distance n l mid k) ≡ distance n l mid i)
  nearer i pos h =
      let d : ℕ = distance n l mid i - 1 in
      let s : suc d ≡ distance n l mid i = omega arith in
      let t : within n l mid (suc d) i ≡ true = rw s (distance-reached i h) in
      let f : within n l mid d i ≡ false = distance_sooner i d (omega arith) in
      let k = within_by d i t f in
      let le = distance_le d k.0 k.3 in
      let ge = distance_over i k.0 k.2 k.1 (omega arith) in
      (k.0, k.1, k.2, omega arith)
