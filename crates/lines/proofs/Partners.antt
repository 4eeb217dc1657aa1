-- The partner of a hut: a neighbour, nearer to the middle by a line, and the lowest such. Assumes nothing.
use Rattle.std.proofs.Common.{◌≡◌, ℕ, suc, ◌<◌, Bool, ◌&&◌, eqb, inl, inr, arith}
use Rattle.std.proofs.lemmas.Bool.{cases_Bool}
use Rattle.std.proofs.lemmas.Bool.Decides.{nat_tests}
use Rattle.lines.specs.Line.{Lines}
use Rattle.lines.specs.Way.{lowest, distance}
use Rattle.lines.specs.Row.{partner}
use Rattle.lines.specs.Partner.{Partner}
use Rattle.lines.proofs.Lowest.{lowest_at, some_from, some_at, lowest_le}
use Rattle.lines.proofs.Ways.{nearer, distance_over}

module _ (n : ℕ) (l : Lines) (mid : ℕ → Bool) where
  pub partner_is : (i : ℕ) → 0 < distance n l mid i → distance n l mid i < n → Partner n l mid i (partner n l mid i)
  unfolding partner
  partner_is i pos h =
      let test : ℕ → Bool = λ k. l i k && eqb (suc (distance n l mid k)) (distance n l mid i) in
      let k = nearer n l mid i pos h in
      let line = k.2 in
      let near = k.3 in
      let found = some_at test n (some_from test n k.0 k.1 (grind (arith, nat_tests))) in
      let both = found.1 in
      let by_one : suc (distance n l mid (lowest test n)) ≡ distance n l mid i = grind (arith, nat_tests) in
      record {
        there = found.0;
        neighbour = grind arith;
        nearer_by_one = by_one;
        nearest = λ j lj line' hj. let ge = distance_over n l mid i j line' lj hj in omega arith;
        lowest = λ j lj line' same. lowest_le test n j (grind (arith, nat_tests));
      }

  -- whatever is such is it
  pub partner_only : (i r : ℕ) → Partner n l mid i r → partner n l mid i ≡ r
  unfolding partner
  partner_only i r p =
      let test : ℕ → Bool = λ k. l i k && eqb (suc (distance n l mid k)) (distance n l mid i) in
      let line = p.neighbour in
      let near = p.nearer_by_one in
      lowest_at test n r
      (record {
        bound = let t = p.there in omega arith;
        passes = λ h. grind (arith, nat_tests);
        sooner =
            λ k h.
            elim (cases_Bool (l i k && eqb (suc (distance n l mid k)) (distance n l mid i))) [
              | inl t ↦
                  let same : distance n l mid k ≡ distance n l mid r = grind (arith, nat_tests) in
                  let there = p.there in
                  let le = p.lowest k (omega arith) (grind arith) same in
                  absurd (omega arith)
              | inr f ↦ f
            ];
      })
