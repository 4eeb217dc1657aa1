-- What all know when each hut of a row calls its partner, from the last to the first, and each partner its hut, from the first to the last. Assumes nothing.
use Rattle.std.proofs.Common.{◌≡◌, ℕ, ◌+◌, ◌<◌, Bool, true, not, T, eqb, List, [], ◌∷◌, length, refl, inl, inr, arith}
use Rattle.std.proofs.lemmas.Bool.{cases_eq}
use Rattle.std.proofs.lemmas.Bool.Decides.{nat_tests}
use Rattle.calls.specs.Call.{Call, call, knows, among, AllKnow}
use Rattle.calls.proofs.Known.{onward, knows_own, knows_first}
use Rattle.lines.specs.Line.{Lines}
use Rattle.lines.specs.Order.{times, every}
use Rattle.lines.specs.Plan.{along, gather, spread}

-- x does not stand in the row
abbrev pub absent : ℕ → List ℕ → Bool
absent x rs = every (λ s. not (eqb s x)) rs

pub times-absent : (x : ℕ) (rs : List ℕ) → absent x rs ≡ true → times x rs ≡ 0
unfolding every times
times-absent x [] t = refl
times-absent x (r ∷ rs) t = let rest = times-absent x rs (grind arith) in grind (arith, nat_tests)

-- a row and the partners of its huts: each hut is there, its partner is there too and along a line, and does not come later in the row
unfoldable pub Paired : ℕ → Lines → (ℕ → ℕ) → List ℕ → Type 0
Paired n l p [] = Unit {0}
Paired n l p (r ∷ rs) = (r < n) × (p r < n) × (l r (p r) ≡ true) × (absent (p r) (r ∷ rs) ≡ true) × Paired n l p rs

module _ (n : ℕ) (l : Lines) (p : ℕ → ℕ) where
  -- a hut outside the row that knows of hut k
  pub record Heard (rs : List ℕ) (k : ℕ) : Type 0 where
    pub hut : ℕ
    pub there : hut < n
    pub outside : absent hut rs ≡ true
    pub knew : T (knows (gather p rs) hut k)

  -- when all have called their partners, what each hut saw is known outside the row
  pub gathers : (rs : List ℕ) → Paired n l p rs → (k : ℕ) → k < n → Heard rs k
  unfolding gather Paired every
  gathers [] pairs k lk = record { hut = k; there = lk; outside = refl; knew = knows_own [] k }
  gathers (r ∷ rs) pairs k lk =
      let before = gathers rs pairs.4 k lk in
      let known = before.knew in
      elim (cases_eq before.hut r) [
        | inl same ↦
            let k' : T (knows (gather p rs) r k) = rw same at known in
            record {
              hut = p r;
              there = pairs.1;
              outside = pairs.3;
              knew = knows_first (gather p rs) (call r (p r)) (p r) k (grind (arith, nat_tests)) k';
            }
        | inr other ↦
            let out = before.outside in
            record {
              hut = before.hut;
              there = before.there;
              outside = grind (arith, nat_tests);
              knew = onward (gather p rs) (call r (p r)) before.hut k known;
            }
      ]

  -- where all outside the row know everything, all do when each partner has called its hut
  pub spreads : (rs : List ℕ) (cs : List Call) → Paired n l p rs → ((h k : ℕ) → h < n → absent h rs ≡ true → k < n → T (knows cs h k)) → AllKnow n (spread p rs cs)
  unfolding spread Paired every
  spreads [] cs pairs all i k li lk = all i k li refl lk
  spreads (r ∷ rs) cs pairs all i k li lk =
      spreads rs (call (p r) r ∷ cs) pairs.4
      (
      λ h j lh out lj.
      elim (cases_eq h r) [
        | inl same ↦ knows_first cs (call (p r) r) h j (grind (arith, nat_tests)) (all (p r) j pairs.1 pairs.3 lj)
        | inr other ↦ onward cs (call (p r) r) h j (all h j lh (grind (arith, nat_tests)) lj)
      ]
      )
      i k li lk

  -- every call is along a line, between different huts that are there
  pub gather-among : (rs : List ℕ) → Paired n l p rs → T (among n (gather p rs))
  unfolding gather Paired among every
  gather-among [] pairs = tt
  gather-among (r ∷ rs) pairs = let rest = gather-among rs pairs.4 in let a = pairs.0 in let e = pairs.1 in let out = pairs.3 in grind (arith, nat_tests)

  pub gather-along : (rs : List ℕ) → Paired n l p rs → T (along l (gather p rs))
  unfolding gather Paired along
  gather-along [] pairs = tt
  gather-along (r ∷ rs) pairs = let rest = gather-along rs pairs.4 in let line = pairs.2 in grind (arith, nat_tests)

  pub spread-among : (rs : List ℕ) (cs : List Call) → Paired n l p rs → T (among n cs) → T (among n (spread p rs cs))
  unfolding spread Paired among every
  spread-among [] cs pairs t = t
  spread-among (r ∷ rs) cs pairs t =
      let a = pairs.0 in
      let e = pairs.1 in
      let out = pairs.3 in
      spread-among rs (call (p r) r ∷ cs) pairs.4 (grind (arith, nat_tests))

  pub spread-along : (both : (i k : ℕ) → l i k ≡ l k i) (rs : List ℕ) (cs : List Call) → Paired n l p rs → T (along l cs) → T (along l (spread p rs cs))
  unfolding spread Paired along
  spread-along both [] cs pairs t = t
  spread-along both (r ∷ rs) cs pairs t =
      let line = pairs.2 in
      let back = both r (p r) in
      spread-along both rs (call (p r) r ∷ cs) pairs.4 (grind (arith, nat_tests))

pub length-gather : (p : ℕ → ℕ) (rs : List ℕ) → length (gather p rs) ≡ length rs
unfolding gather
length-gather p [] = refl
length-gather p (r ∷ rs) = let rest = length-gather p rs in omega arith

pub length-spread : (p : ℕ → ℕ) (rs : List ℕ) (cs : List Call) → length (spread p rs cs) ≡ length rs + length cs
unfolding spread
length-spread p [] cs = omega arith
length-spread p (r ∷ rs) cs = let rest = length-spread p rs (call (p r) r ∷ cs) in omega arith
