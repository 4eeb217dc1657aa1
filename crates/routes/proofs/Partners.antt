-- The partners of a row, one after the other, and that they are the prescribed ones. Assumes nothing.
use Rattle.std.proofs.Common.{◌≡◌, ℕ, ◌-◌, ◌<◌, Bool, true, ◌&&◌, ltb, leb, List, [], ◌∷◌, map, get_or, vec_items, sym, refl, ap, ◌∙◌, inl, inr, arith, Bor, Iter}
use Rattle.std.specs.List.{All}
use Rattle.std.specs.Fn.{Mut, Called}
use Rattle.std.specs.Iterator.{Yields}
use Rattle.std.specs.Iterator.Adapters.{map_callee}
use Rattle.std.specs.declared.iter.Map.{Map}
use Rattle.std.proofs.lemmas.Fn.{fronts}
use Rattle.std.proofs.lemmas.Iterator.{maps}
use Rattle.std.proofs.lemmas.List.Elements.{All-nil, All-cons, All-head, All-tail}
use Rattle.std.proofs.lemmas.Bool.{cases_lt}
use Rattle.std.proofs.lemmas.Bool.Decides.{nat_tests}
use Rattle.sets.specs.Set.{in_set, row_of}
use Rattle.lines.specs.Way.{distance}
use Rattle.lines.specs.Row.{row_to, partner}
use Rattle.lines.specs.Order.{every}
use Rattle.lines.proofs.Ways.{nearer, distance_over, within-distance}
use Rattle.lines.proofs.Rows.{every-row}
use Rattle.lines.proofs.Partners.{partner_only}
use Rattle.rows.specs.declared.table.Rows.{Rows}
use Rattle.rows.specs.Rows.{huts, told}
use Rattle.routes.specs.declared.Tied.{Tied}
use Rattle.routes.specs.declared.reaching.Reach.{Reach}
use Rattle.routes.specs.Near.{near, Nearest, IsTied, Partners}
use Rattle.routes.specs.Reach.{Reached}
use Rattle.routes.proofs.Pairs.{tied}

-- the nearest neighbour by the distances is the partner
module _ (rows : Rows) (mid : ℕ → Bool) (x : Reach) (at : Reached rows mid (huts rows - 1) x)
    (joins : (i : ℕ) → i < huts rows → distance (huts rows) (told rows) mid i < huts rows) where
  far_is : (k : ℕ) → k < huts rows → get_or (vec_items x.distances) k 0 ≡ distance (huts rows) (told rows) mid k
  far_is k lk =
      let w = within-distance (huts rows) (told rows) mid (huts rows - 1) k (omega arith) in
      let j = joins k lk in
      at.far k lk (grind (arith, nat_tests))

  told-near : (i k : ℕ) → i < huts rows → told rows i k ≡ in_set (row_of (vec_items rows.of) i) k
  unfolding told
  told-near i k li = grind (arith, nat_tests)

  nearest_partner : (r p : ℕ) → r < huts rows → 0 < distance (huts rows) (told rows) mid r → Nearest (row_of (vec_items rows.of) r) (vec_items x.distances) r p → partner (huts rows) (told rows) mid r ≡ p
  nearest_partner r p lr pos next =
      let size = at.size in
      let dr = far_is r lr in
      let lp : p < huts rows = let t = next.there in omega arith in
      let dp = far_is p lp in
      let k = nearer (huts rows) (told rows) mid r pos (joins r lr) in
      let lk = k.1 in
      let line = sym (told-near r k.0 lr) ∙ k.2 in
      let by_one = k.3 in
      let dk = far_is k.0 k.1 in
      let not_nearer = next.none_nearer k.0 (omega arith) in
      let is : near (row_of (vec_items rows.of) r) (vec_items x.distances) (get_or (vec_items x.distances) r 0) p ≡ true =
      elim next.is [
        | inl same ↦ let d' : get_or (vec_items x.distances) p 0 ≡ get_or (vec_items x.distances) r 0 = ap (λ j. get_or (vec_items x.distances) j 0) same in absurd (grind (arith, nat_tests))
        | inr found ↦ found
      ]
      in
      let neighbour : told rows r p ≡ true = told-near r p lr ∙ grind arith in
      let over = distance_over (huts rows) (told rows) mid r p neighbour lp (joins p lp) in
      let less : get_or (vec_items x.distances) p 0 < get_or (vec_items x.distances) r 0 = grind (arith, nat_tests) in
      partner_only (huts rows) (told rows) mid r p
      (record {
        there = lp;
        neighbour = neighbour;
        nearer_by_one = omega arith;
        nearest =
            λ j lj line' hj.
            let dj = far_is j lj in
            let nb : in_set (row_of (vec_items rows.of) r) j ≡ true = sym (told-near r j lr) ∙ line' in
            let f = next.none_nearer j (omega arith) in
            grind (arith, nat_tests);
        lowest =
            λ j lj line' same.
            let dj = far_is j lj in
            let nb : in_set (row_of (vec_items rows.of) r) j ≡ true = sym (told-near r j lr) ∙ line' in
            elim (cases_lt j p) [ inl lower ↦ absurd (next.lowest less j lower nb (omega arith)) | inr not_lower ↦ not_lower ];
      })

-- ties whose partners are those of f
mapped_by :
    (rows : Rows) (ds : List ℕ) (f : ℕ → ℕ) (g : ℕ → Bool) (ts : List Tied) → every g (map (λ (t : Tied). t.hut) ts) ≡ true → All (IsTied rows ds) ts →
    ((t : Tied) → g t.hut ≡ true → IsTied rows ds t → f t.hut ≡ t.partner) → ts ≡ map (tied f) (map (λ (t : Tied). t.hut) ts)
unfolding every
mapped_by rows ds f g [] all each same = refl
mapped_by rows ds f g (t ∷ ts) all each same =
    let here : f t.hut ≡ t.partner = same t (grind arith) (All-head (IsTied rows ds) t ts each) in
    let rest = mapped_by rows ds f g ts (grind arith) (All-tail (IsTied rows ds) t ts each) same in
    rw (here, ← rest)

-- the huts of a row are there
every_there : (g : ℕ → Bool) (n : ℕ) (xs : List ℕ) → ((x : ℕ) → g x ≡ true → x < n) → every g xs ≡ true → All (λ i. i < n) xs
unfolding every
every_there g n [] less t = All-nil (λ i. i < n)
every_there g n (x ∷ xs) less t = All-cons (λ i. i < n) x xs (less x (grind arith)) (every_there g n xs less (grind arith))

-- hut i is one of the row
abbrev in_row : Rows → (ℕ → Bool) → ℕ → ℕ → Bool
in_row rows mid e i = ltb i (huts rows) && (ltb 0 (distance (huts rows) (told rows) mid i) && leb (distance (huts rows) (told rows) mid i) e)

pub row_there : (rows : Rows) (mid : ℕ → Bool) (e : ℕ) → All (λ i. i < huts rows) (row_to (huts rows) (told rows) mid e)
row_there rows mid e = every_there (in_row rows mid e) (huts rows) (row_to (huts rows) (told rows) mid e) (λ x t. grind (arith, nat_tests)) (every-row (huts rows) (told rows) mid e)

pub partners_are :
    (rows : Rows) (mid : ℕ → Bool) (x : Reach) (ts : List Tied) → Reached rows mid (huts rows - 1) x → ((i : ℕ) → i < huts rows → distance (huts rows) (told rows) mid i < huts rows) →
    Partners rows (vec_items x.distances) (vec_items x.row) ts → ts ≡ map (tied (partner (huts rows) (told rows) mid)) (vec_items x.row)
partners_are rows mid x ts at joins found =
    let all = every-row (huts rows) (told rows) mid (huts rows - 1) in
    rw found.same at (mapped_by rows (vec_items x.distances) (partner (huts rows) (told rows) mid) (in_row rows mid (huts rows - 1)) ts
    (rw (found.same, at.listed) all)
    found.each
    (λ t here next. nearest_partner rows mid x at joins t.hut t.partner (grind (arith, nat_tests)) (grind (arith, nat_tests)) next))

-- what a closure gives for each of the huts is so of all that it gave
pub all_given :
    {F : Type 0} (g : Mut F (Bor ℕ × Unit {0}) Tied) (P : Tied → Type 0) (f : F) → ((x : Bor ℕ) (r : Tied) (q : F) → Called g f (x, _) r q → (q ≡ f) × P r) → (ts : List Tied) (s t : Map (Iter ℕ) F) →
    map_callee s ≡ f → Yields (maps fronts g) s ts t → All P ts
all_given g P f gives [] s t same y = All-nil P
all_given g P f gives (r ∷ ts) s t same (j, (x, step, call), y) =
    let one = gives x r (map_callee j) (rw same at call) in
    All-cons P r ts one.1 (all_given g P f gives ts j t one.0 y)
