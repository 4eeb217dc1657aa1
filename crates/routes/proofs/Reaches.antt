-- Line by line from the middle: what is reached with a line more, and when all are. Assumes nothing.
use Rattle.std.proofs.Common.{◌≡◌, ℕ, zero, suc, ◌+◌, ◌-◌, ◌<◌, Bool, true, false, ◌&&◌, eqb, ltb, [], get_or, replicate, Some, None, vec_items, Option, sym, ◌∙◌, inl, inr, append-nil, arith}
use Rattle.std.specs.Option.{is_some}
use Rattle.std.proofs.lemmas.List.{get_or-replicate, length-replicate}
use Rattle.std.proofs.lemmas.Bool.{both_ways, cases_Bool, cases_lt}
use Rattle.std.proofs.lemmas.Bool.Decides.{nat_tests}
use Rattle.sets.specs.declared.HutSet.{HutSet}
use Rattle.sets.specs.Set.{in_set, Lowest, LowestMissing, row_of}
use Rattle.lines.specs.Way.{lowest, some, within, distance}
use Rattle.lines.specs.Row.{row_to}
use Rattle.lines.proofs.Lowest.{some_from, some_at}
use Rattle.lines.proofs.Rows.{those_same, those_none}
use Rattle.lines.proofs.Ways.{within-distance, at_distance, within_later, distance_le, distance-middle}
use Rattle.rows.specs.declared.table.Rows.{Rows}
use Rattle.rows.specs.Rows.{huts, told}
use Rattle.routes.specs.declared.reaching.Reach.{Reach}
use Rattle.routes.specs.Fresh.{fresh}
use Rattle.routes.specs.Ring.{Ringed}
use Rattle.routes.specs.Reach.{Reached}

-- no hut is missing
pub none_missing : (n : ℕ) (s : HutSet) (o : Option ℕ) → is_some o ≡ false → LowestMissing n s o → Lowest n s n
none_missing n s None f low = low
none_missing n s (Some k) f low = absurd (let z : ◌≡◌ {A = ℕ} 0 1 = cc in omega arith)

module _ (rows : Rows) (mid : ℕ → Bool) where
  abbrev n : ℕ
  n = huts rows

  abbrev near : ℕ → ℕ → Bool
  near e k = within (huts rows) (told rows) mid e k

  abbrev far : ℕ → ℕ
  far k = distance (huts rows) (told rows) mid k

  -- at first the middle is reached
  pub reached_none :
      (x : Reach) → ((k : ℕ) → in_set x.huts k ≡ mid k) → ((k : ℕ) → mid k ≡ true → k < n) → vec_items x.distances ≡ replicate n 0 → vec_items x.row ≡ [] → Reached rows mid 0 x
  unfolding within row_to
  reached_none x same there e none =
      record {
        set = λ k. let s = same k in elim (cases_Bool (mid k)) [ inl t ↦ let l = there k t in grind (arith, nat_tests) | inr f ↦ grind arith ];
        far =
            λ k l t.
            let z : get_or (vec_items x.distances) k 0 ≡ 0 = rw e (get_or-replicate n k 0 0 l) in
            let d = distance-middle n (told rows) mid k (omega arith) in
            grind (arith, nat_tests);
        size = rw e (length-replicate n 0);
        listed = none;
      }

  -- a neighbour in the set is one that is reached
  meets_near : (e : ℕ) (s : HutSet) → ((k : ℕ) → in_set s k ≡ (ltb k n && near e k)) → (k : ℕ) → k < n →
      some (λ j. in_set (row_of (vec_items rows.of) k) j && in_set s j) 1024 ≡ some (λ j. told rows k j && near e j) n
  unfolding told
  meets_near e s set k lk =
      let f : ℕ → Bool = λ j. in_set (row_of (vec_items rows.of) k) j && in_set s j in
      let g : ℕ → Bool = λ j. told rows k j && near e j in
      elim (cases_Bool (some f 1024)) [
        | inl t ↦
            let at = some_at f 1024 t in
            let is = at.1 in
            let j : ℕ = lowest f 1024 in
            let sj = set j in
            let r = some_from g n j (grind (arith, nat_tests)) (grind (arith, nat_tests)) in
            grind arith
        | inr no-f ↦
            elim (cases_Bool (some g n)) [
              | inl t ↦
                  let at = some_at g n t in
                  let is = at.1 in
                  let j : ℕ = lowest g n in
                  let lj = at.0 in
                  let sj = set j in
                  let r = some_from f 1024 j (omega arith) (grind (arith, nat_tests)) in
                  absurd (both_ways (some f 1024) no-f r)
              | inr no-g ↦ grind arith
            ]
      ]

  -- the huts that are reached with a line more are those that are just so far
  fresh_far : (e : ℕ) (s : HutSet) → ((k : ℕ) → in_set s k ≡ (ltb k n && near e k)) → suc e < n → (k : ℕ) → k < n → fresh rows s k ≡ eqb (far k) (suc e)
  unfolding fresh within
  fresh_far e s set le k lk =
      let sk = set k in
      let meets = meets_near e s set k lk in
      let at = at_distance n (told rows) mid e k le in
      rw (at, meets) (grind (arith, nat_tests))

  pub reached_more : (e d : ℕ) (x y : Reach) → suc e ≡ d → d < n → Reached rows mid e x → Ringed rows n d x y → Reached rows mid d y
  unfolding row_to
  reached_more e d x y ed ld before ring =
      let le : suc e < n = omega arith in
      let is_fresh = fresh_far e x.huts before.set le in
      rw (← ed)
      (record {
        set =
            λ k.
            let r = ring.set k in
            let b = before.set k in
            let w = within-distance n (told rows) mid e k (omega arith) in
            let w' = within-distance n (told rows) mid (suc e) k le in
            elim (cases_lt k n) [ inl lk ↦ let f = is_fresh k lk in grind (arith, nat_tests) | inr more ↦ grind (arith, nat_tests) ];
        far =
            λ k lk t.
            let size = before.size in
            let r = ring.far k (omega arith) in
            let f = is_fresh k lk in
            let w' = within-distance n (told rows) mid (suc e) k le in
            elim (cases_Bool (near e k)) [
              | inl old ↦ let b = before.far k lk old in let w = within-distance n (told rows) mid e k (omega arith) in grind (arith, nat_tests)
              | inr new ↦ let w = within-distance n (told rows) mid e k (omega arith) in grind (arith, nat_tests)
            ];
        size = ring.size ∙ before.size;
        listed = rw (ring.listed, before.listed, those_same (fresh rows x.huts) (λ i. eqb (far i) (suc e)) n is_fresh);
      })

  -- where all are reached, more lines reach nobody new
  row_stays : (e m : ℕ) → m + e < n → ((k : ℕ) → k < n → near e k ≡ true) → row_to n (told rows) mid (m + e) ≡ row_to n (told rows) mid e
  unfolding row_to
  row_stays e zero l all = let s : zero + e ≡ e = omega arith in rw s
  row_stays e (suc m) l all =
      let s : suc m + e ≡ suc (m + e) = omega arith in
      let none = those_none (λ i. eqb (far i) (suc (m + e))) n (λ k lk. let d = distance_le n (told rows) mid e k (all k lk) in grind (arith, nat_tests)) in
      rw (s, none, append-nil (row_to n (told rows) mid (m + e))) (row_stays e m (omega arith) all)

  pub reached-all : (e : ℕ) (x : Reach) → e < n → Lowest n x.huts n → Reached rows mid e x → Reached rows mid (n - 1) x
  reached-all e x le low before =
      let all : (k : ℕ) → k < n → near e k ≡ true = λ k lk. let t = low.before k (omega arith) in let b = before.set k in grind (arith, nat_tests) in
      let m : ℕ = n - 1 - e in
      let split : m + e ≡ n - 1 = omega arith in
      record {
        set =
            λ k.
            let b = before.set k in
            elim (cases_lt k n) [
              | inl lk ↦ let a = all k lk in let a' : near (n - 1) k ≡ true = rw split at (within_later n (told rows) mid e m k a) in grind (arith, nat_tests)
              | inr more ↦ grind (arith, nat_tests)
            ];
        far = λ k lk t. before.far k lk (all k lk);
        size = before.size;
        listed = before.listed ∙ sym (rw split at (row_stays e m (omega arith) all));
      }
