-- The huts of a set gone over, rising: what is known of those before the ones that are left. Assumes nothing.
use Rattle.std.proofs.Common.{◌≡◌, ℕ, zero, suc, ◌+◌, ◌-◌, ◌<◌, ◌≤◌, Bool, true, false, List, [], ◌∷◌, inl, inr, sym, arith}
use Rattle.std.specs.List.{filter, range_with_len}
use Rattle.std.proofs.lemmas.Bool.{cases_Bool, cases_lt, cases_eq}
use Rattle.sets.specs.declared.HutSet.{HutSet}
use Rattle.sets.specs.Set.{in_set, huts_from}

-- none of the numbers passes
filter_nil : (p : ℕ → Bool) (f n : ℕ) → filter p (range_with_len f n) ≡ [] → (k : ℕ) → f ≤ k → k < f + n → p k ≡ false
filter_nil p f zero e k since l = absurd (omega arith)
filter_nil p f (suc n) e k since l =
    elim (cases_Bool (p f)) [
      | inl t ↦ let e' = rw t at e in cc
      | inr fails ↦ elim (cases_eq k f) [ inl same ↦ rw same fails | inr other ↦ filter_nil p (f + 1) n (rw fails at e) k (omega arith) (omega arith) ]
    ]

-- the first of those that pass, and those after it
filter_first : (p : ℕ → Bool) (f n b : ℕ) (ys : List ℕ) → filter p (range_with_len f n) ≡ b ∷ ys →
    (f ≤ b) × (b < f + n) × (p b ≡ true) × ((k : ℕ) → f ≤ k → k < b → p k ≡ false) × (ys ≡ filter p (range_with_len (b + 1) (f + n - (b + 1))))
filter_first p f zero b ys e = absurd (let z : ◌≡◌ {A = ℕ} 0 1 = cc in omega arith)
filter_first p f (suc n) b ys e =
    elim (cases_Bool (p f)) [
      | inl t ↦
          let e' = rw t at e in
          let same : f ≡ b = cc in
          let rest : ys ≡ filter p (range_with_len (f + 1) n) = cc in
          let m : f + suc n - (f + 1) ≡ n = omega arith in
          (omega arith, omega arith, rw (← same) t, λ k since l. absurd (omega arith), rw (← same, m) rest)
      | inr fails ↦
          let more = filter_first p (f + 1) n b ys (rw fails at e) in
          let m : f + 1 + n - (b + 1) ≡ f + suc n - (b + 1) = omega arith in (
            omega (arith, more.0),
            omega (arith, more.1),
            more.2,
            λ k since l. elim (cases_eq k f) [ inl same ↦ rw same fails | inr other ↦ more.3 k (omega arith) l ],
            rw m at more.4,
          )
    ]

-- xs are the huts of s from some hut on, from low on at least, and P is so of those before it
pub record Left (s : HutSet) (low : ℕ) (P : ℕ → Type 0) (xs : List ℕ) : Type 0 where
  pub from : ℕ
  pub since : low ≤ from
  pub left : xs ≡ huts_from s from
  pub before : (w : ℕ) → w < from → P w

module _ (s : HutSet) (low : ℕ) (P : ℕ → Type 0) (away : (w : ℕ) → in_set s w ≡ false → P w) where
  pub left_all : (xs : List ℕ) → xs ≡ huts_from s low → ((w : ℕ) → w < low → P w) → Left s low P xs
  left_all xs e below = record { from = low; since = omega arith; left = e; before = below }

  -- the next
  pub left_first : (b : ℕ) (ys : List ℕ) → Left s low P (b ∷ ys) → (low ≤ b) × (in_set s b ≡ true) × ((w : ℕ) → w < b → P w)
  left_first b ys on =
      let first = filter_first (in_set s) on.from (1024 - on.from) b ys (sym on.left) in
      (omega (arith, first.0, on.since), first.2, λ w l. elim (cases_lt w on.from) [ inl less ↦ on.before w less | inr more ↦ away w (first.3 w more l) ])

  -- and those after it
  pub left_rest : (b : ℕ) (ys : List ℕ) → Left s low P (b ∷ ys) → P b → Left s low P ys
  left_rest b ys on here =
      let first = filter_first (in_set s) on.from (1024 - on.from) b ys (sym on.left) in
      let upto = left_first b ys on in
      let m : on.from + (1024 - on.from) - (b + 1) ≡ 1024 - (b + 1) = omega (arith, first.0, first.1) in
      record {
        from = b + 1;
        since = omega (arith, upto.0);
        left = rw m at first.4;
        before = λ w l. elim (cases_eq w b) [ inl same ↦ rw same here | inr other ↦ upto.2 w (omega arith) ];
      }

  -- where none is left P is so of all
  pub left_none : Left s low P [] → (w : ℕ) → w < 1024 → P w
  left_none on w l =
      elim (cases_lt w on.from) [ inl less ↦ on.before w less | inr more ↦ away w (filter_nil (in_set s) on.from (1024 - on.from) (sym on.left) w more (omega arith)) ]
