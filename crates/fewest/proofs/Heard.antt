-- A list of calls in which somebody hears its own news can do with a hut fewer and two calls fewer. Assumes nothing.
--     stead x y i         who stands for hut i: y for x, any other for itself
--     Stand n x y d cs    a list of calls without hut x, in which y stands for it, with at least d calls fewer than cs
-- Another hut y makes the calls of x too. A call in which both ends have the same hut in their stead is left out. That happens twice on the way
-- by which the news of x comes back to it: at the first call by which it goes out, and at the one by which it comes back. On the way the
-- stead of x goes along with its news: a call between y and z makes z know all that y knows, so z can stand for x from then on.
use Rattle.std.proofs.Common.{◌≡◌, ℕ, suc, ◌+◌, ◌<◌, ◌≤◌, true, false, cond, T, eqb, List, [], ◌∷◌, length, refl, subst, inl, inr, arith, eqb→eq}
use Rattle.std.proofs.lemmas.Bool.{cases_Bool, cases_eq}
use Rattle.std.proofs.lemmas.Bool.Decides.{nat_tests}
use Rattle.calls.specs.Call.{Call, call, knows, with_either, busy, among}
use Rattle.calls.proofs.Known.{onward, knows_from, From, knows_same}
use Rattle.fewest.proofs.Moments.{Teller, told_by_lem}
use Rattle.fewest.specs.Own.{hears, hears_in, HearingCosts}

unfoldable stead : ℕ → ℕ → ℕ → ℕ
stead x y i = cond (eqb i x) y i

record Stand (n x y d : ℕ) (cs : List Call) : Type 0 where
  there : y < n
  other : y ≡ x → ⊥
  calls : List Call
  apart : T (among n calls)
  without : busy x calls ≡ false
  fewer : length calls + d ≤ length cs
  keeps : (i k : ℕ) → (k ≡ x → ⊥) → T (knows cs i k) → T (knows calls (stead x y i) k)

module _ (n x : ℕ) where
  -- with no call any other can stand for x
  stand_none : {y : ℕ} → y < n → (y ≡ x → ⊥) → Stand n x y 0 []
  unfolding knows among busy stead
  stand_none there other =
      record {
        there = there;
        other = other;
        calls = [];
        apart = tt;
        without = refl;
        fewer = omega arith;
        keeps = λ i k differ t. let e = eqb→eq i k t in grind (arith, nat_tests);
      }

  -- a call of two that have the same hut in their stead is left out, and so one is spared
  stand_drop : {y d : ℕ} {cs : List Call} (e : ℕ) (c : Call) → e ≤ suc d → stead x y c.a ≡ stead x y c.e → Stand n x y d cs → Stand n x y e (c ∷ cs)
  unfolding stead
  stand_drop {y} {d} {cs} e c spared one s =
      record {
        there = s.there;
        other = s.other;
        calls = s.calls;
        apart = s.apart;
        without = s.without;
        fewer = let l = s.fewer in omega arith;
        keeps =
            λ i k differ t.
            let f : From c cs i k = knows_from cs c i k t in
            let as_one : stead x y f.hut ≡ stead x y i = elim f.near [ inl itself ↦ rw itself refl | inr both ↦ grind (arith, nat_tests) ] in
            rw as_one at (s.keeps f.hut k differ f.knew);
      }

  -- any other is made by those who stand for the two
  stand_keep : {y d : ℕ} {cs : List Call} (c : Call) → T (among n (c ∷ cs)) → (stead x y c.a ≡ stead x y c.e → ⊥) → Stand n x y d cs → Stand n x y d (c ∷ cs)
  unfolding among busy stead
  stand_keep {y} {d} {cs} c apart two s =
      let c' : Call = call (stead x y c.a) (stead x y c.e) in
      let other = s.other in
      record {
        there = s.there;
        other = s.other;
        calls = c' ∷ s.calls;
        apart = let l = s.there in let u = s.apart in grind (arith, nat_tests);
        without = let u = s.without in grind (arith, nat_tests);
        fewer = let l = s.fewer in omega arith;
        keeps =
            λ i k differ t.
            let f : From c cs i k = knows_from cs c i k t in
            let knew = onward s.calls c' (stead x y f.hut) k (s.keeps f.hut k differ f.knew) in
            let alike : knows (c' ∷ s.calls) (stead x y f.hut) k ≡ knows (c' ∷ s.calls) (stead x y i) k =
            elim f.near [
              | inl itself ↦ rw itself refl
              | inr both ↦ knows_same s.calls c' (stead x y f.hut) (stead x y i) k (grind (arith, nat_tests)) (grind (arith, nat_tests))
            ]
            in
            rw alike at knew;
      }

  -- one more call, whichever it is
  stand_more : {y d : ℕ} {cs : List Call} (c : Call) → T (among n (c ∷ cs)) → Stand n x y d cs → Stand n x y d (c ∷ cs)
  stand_more {y} {d} c apart s =
      elim (cases_eq (stead x y c.a) (stead x y c.e)) [ inl one ↦ stand_drop d c (omega arith) one s | inr two ↦ stand_keep c apart two s ]

  stand_all : {y : ℕ} (cs : List Call) → y < n → (y ≡ x → ⊥) → T (among n cs) → Stand n x y 0 cs
  unfolding among
  stand_all [] there other apart = stand_none there other
  stand_all (c ∷ cs) there other apart = stand_more c apart (stand_all cs there other (grind arith))

  -- after a call between y and z hut z can stand for x in the place of y
  stand_pass :
      {y d : ℕ} {cs : List Call} (c : Call) (z : ℕ) → z < n → (z ≡ x → ⊥) → (y ≡ z → ⊥) → T (among n (c ∷ cs)) → with_either y c ≡ true → with_either z c ≡ true →
      Stand n x y d cs → Stand n x z d (c ∷ cs)
  unfolding stead stand_keep
  stand_pass {y} {d} {cs} c z there other two apart in-y in-z s =
      let from = s.other in
      let t : Stand n x y d (c ∷ cs) = stand_keep c apart (grind (arith, nat_tests)) s in
      let c' : Call = call (stead x y c.a) (stead x y c.e) in
      record {
        there = there;
        other = other;
        calls = t.calls;
        apart = t.apart;
        without = t.without;
        fewer = t.fewer;
        keeps =
            λ i k differ u.
            let v = t.keeps i k differ u in
            elim (cases_eq i x) [
              | inr itself ↦ let unchanged : stead x y i ≡ stead x z i = grind (arith, nat_tests) in rw unchanged at v
              | inl out ↦
                  let old : stead x y i ≡ y = grind (arith, nat_tests) in
                  let new : stead x z i ≡ z = grind (arith, nat_tests) in
                  let alike = knows_same s.calls c' y z k (grind (arith, nat_tests)) (grind (arith, nat_tests)) in
                  rw (new, ← alike) (rw old at v)
            ];
      }

  -- Whoever knows what x saw can stand for it, and a call is spared: the one by which the news went out.
  stand_out : (v : ℕ) (cs : List Call) → v < n → (v ≡ x → ⊥) → T (among n cs) → T (knows cs v x) → Stand n x v 1 cs
  unfolding knows among stead
  stand_out v [] there other apart t = absurd (other (eqb→eq v x t))
  stand_out v (c ∷ cs) there other apart t =
      let f : From c cs v x = knows_from cs c v x t in
      let rest : T (among n cs) = grind arith in
      elim f.near [
        | inl itself ↦ stand_more c apart (stand_out v cs there other rest (rw itself at f.knew))
        | inr both ↦
            elim (cases_eq f.hut x) [
              | inl out ↦ stand_drop 1 c (omega arith) (grind (arith, nat_tests)) (stand_all cs there other rest)
              | inr on ↦
                  let s = stand_out f.hut cs (grind (arith, nat_tests)) on rest f.knew in
                  elim (cases_eq f.hut v) [
                    | inl itself ↦ stand_more c apart (subst (λ y. Stand n x y 1 cs) itself s)
                    | inr passed ↦ stand_pass c v there other passed apart both.1 both.0 s
                  ]
            ]
      ]

  -- If x hears its own news, two calls are spared: the one by which it went out, and the one by which it came back.
  stand_back : (cs : List Call) → T (among n cs) → T (hears cs x) → (y : ℕ) × Stand n x y 2 cs
  unfolding hears among stead
  stand_back [] apart t = absurd t
  stand_back (c ∷ cs) apart t =
      let rest : T (among n cs) = grind arith in
      elim (cases_Bool (hears_in c cs x)) [
        | inr not_yet ↦ let s = stand_back cs rest (grind arith) in (s.0, stand_more {y = s.0} c apart s.1)
        | inl back ↦
            let v : Teller c cs x = told_by_lem c cs x (grind arith) in
            let other = v.other in
            let in_x = v.told in
            let in_v = v.teller in
            (v.hut, stand_drop 2 c (omega arith) (grind (arith, nat_tests)) (stand_out v.hut cs (grind (arith, nat_tests)) other rest v.knew))
      ]

-- huts x and n change names
unfoldable rename : ℕ → ℕ → ℕ → ℕ
rename x n i = cond (eqb i x) n (cond (eqb i n) x i)

rename_back : (x n i : ℕ) → rename x n (rename x n i) ≡ i
unfolding rename
rename_back x n i = grind (arith, nat_tests)

rename_eqb : (x n i k : ℕ) → eqb (rename x n i) (rename x n k) ≡ eqb i k
unfolding rename
rename_eqb x n i k = grind (arith, nat_tests)

unfoldable renamed : ℕ → ℕ → List Call → List Call
renamed x n [] = []
renamed x n (c ∷ cs) = call (rename x n c.a) (rename x n c.e) ∷ renamed x n cs

length-renamed : (x n : ℕ) (cs : List Call) → length (renamed x n cs) ≡ length cs
unfolding renamed
length-renamed x n [] = refl
length-renamed x n (c ∷ cs) = let h = length-renamed x n cs in omega arith

-- by other names they know the same
knows-renamed : (x n : ℕ) (cs : List Call) (i k : ℕ) → knows (renamed x n cs) (rename x n i) (rename x n k) ≡ knows cs i k
unfolding renamed knows
knows-renamed x n [] i k = rename_eqb x n i k
knows-renamed x n (c ∷ cs) i k =
    rw (rename_eqb x n i c.a, rename_eqb x n i c.e, knows-renamed x n cs c.a k, knows-renamed x n cs c.e k, knows-renamed x n cs i k) refl

-- calls without x are calls of one hut fewer, once the last hut has the name x
among-renamed : (x n : ℕ) (cs : List Call) → x < suc n → T (among (suc n) cs) → busy x cs ≡ false → T (among n (renamed x n cs))
unfolding renamed among busy rename
among-renamed x n [] l t b = tt
among-renamed x n (c ∷ cs) l t b = let rest = among-renamed x n cs l (grind arith) (grind arith) in grind (arith, nat_tests)

pub hearing_costs : HearingCosts
unfolding rename stead
hearing_costs n cs apart all x l t =
    let stood = stand_back (suc n) x cs apart t in
    let s : Stand (suc n) x stood.0 2 cs = stood.1 in
    record {
      calls = renamed x n s.calls;
      apart = among-renamed x n s.calls l s.apart s.without;
      all_know =
          λ i k p q.
          let i' : ℕ = rename x n i in
          let k' : ℕ = rename x n k in
          let known = s.keeps i' k' (grind (arith, nat_tests)) (all i' k' (grind (arith, nat_tests)) (grind (arith, nat_tests))) in
          let itself : stead x stood.0 i' ≡ i' = grind (arith, nat_tests) in
          let named : T (knows (renamed x n s.calls) (rename x n i') (rename x n k')) = rw (knows-renamed x n s.calls i' k') (rw itself at known) in
          rw (rename_back x n i, rename_back x n k) at named;
      fewer = rw (length-renamed x n s.calls) s.fewer;
    }
