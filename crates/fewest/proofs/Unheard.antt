-- Where nobody hears its own news there are 2 n - 4 calls or more. Assumes nothing.
--     deg w ts es        how many of the calls es hut w is in
--     idle x l c r       at this place nobody learns what x saw, and nobody tells x
--     middle l c r       the call is neither the first nor the last of its huts
--     hit x l c r w      hut w learns what x saw here and has a later call, or tells x here and has an earlier one
-- After Baker and Shostak (1972). Suppose that there are 2 n - 5 calls or fewer.
-- 1. Each hut but x learns what x saw at some place and tells x at some place, and no two do at one place. One place serves for both only if x
--    is in the call, else x would hear its own news. So x is in three calls at least, and in one more for each idle place (balance).
-- 2. Not every hut is in four calls (poor). So some x is in just three, and no place is idle for it.
-- 3. Each hut has a first call and a last one, and a call is the first of two huts, the last of two, or in the middle: at most n - 5 are in the
--    middle (middle_few).
-- 4. Each hut has a call between two others, and that place is not idle for x. Follow how the news of x came there, or goes on from there: the
--    hut is hit at some place (some-hit), which is in the middle or of x (on_the_way), and no two at one place (one_hit). So
--    n - 1 huts are hit at n - 5 places in the middle and three of x: too few.
use Rattle.std.proofs.Common.{◌≡◌, ℕ, ◌+◌, ◌*◌, ◌<◌, ◌≤◌, Bool, true, false, not, ◌&&◌, ◌||◌, eqb, leb, List, [], ◌∷◌, length, refl, inl, inr, arith, eqb→eq}
use Rattle.std.proofs.lemmas.Bool.{cases_Bool, cases_lt, leb-true, leb-false}
use Rattle.std.proofs.lemmas.Bool.Decides.{nat_tests}
use Rattle.calls.specs.Call.{Call, knows, with_either, busy, among}
use Rattle.calls.proofs.Known.{knows_same}
use Rattle.fewest.proofs.Counts.{bit, how_many, many_all, many_others, many_one, many_two, all_or_one, whole, Places, total, total_add, total_const, total_mono, total_three, total_shift, total-turned, two_ways, Found, found_more, found_at, begins, counted}
use Rattle.fewest.proofs.Moments.{Quiet, quiet_turned, turned_at}
use Rattle.fewest.proofs.Learned.{learns, learned, source, learns_one, who_learned, spreads}
use Rattle.fewest.proofs.Together.{Place, place, place-turned, together, learn_tell, on_the_way}

abbrev deg : ℕ → List Call → List Call → ℕ
deg w ts es = total (λ _ c _. bit (with_either w c)) ts es

abbrev idle : ℕ → Places Bool
idle x l c r = not (learned x c r) && not (learned x c l)

abbrev middle : Places Bool
middle l c r = busy c.a r && busy c.a l

abbrev hit : ℕ → Places (ℕ → Bool)
hit x l c r w = (learns x w c r && busy w l) || (learns x w c l && busy w r)

abbrev idles : List Call → ℕ → ℕ
idles cs x = total (λ l c r. bit (idle x l c r)) [] cs

abbrev middles : List Call → ℕ
middles cs = total (λ l c r. bit (middle l c r)) [] cs

-- a hut in no call
deg_none : (w : ℕ) (ts es : List Call) → busy w es ≡ false → deg w ts es ≡ 0
unfolding total busy
deg_none w ts [] b = refl
deg_none w ts (c ∷ es) b = let rest = deg_none w (c ∷ ts) es (grind arith) in grind arith

-- a hut in three calls has one between two others
between : (w : ℕ) (ts es : List Call) → 3 ≤ bit (busy w ts) + deg w ts es → Found (λ l c r. with_either w c && (busy w l && busy w r)) ts es
unfolding total busy
between w ts [] h = absurd (grind arith)
between w ts (c ∷ es) h =
    elim (cases_Bool (with_either w c && busy w ts)) [
      | inr not_yet ↦ found_more (λ l c r. with_either w c && (busy w l && busy w r)) ts c es (between w (c ∷ ts) es (grind arith))
      | inl second ↦ let none = deg_none w (c ∷ ts) es in record { later = ts; at = c; earlier = es; is = refl; since = λ v b. b; holds = grind arith }
    ]

-- If somebody learns what x saw in a call of w, then w learns it in that call or before.
hit-before :
    (cs l : List Call) (c : Call) (r : List Call) (x w : ℕ) → whole l (c ∷ r) ≡ cs → (w ≡ x → ⊥) → with_either w c ≡ true → busy w l ≡ true → learned x c r ≡ true →
    1 ≤ total (λ l c r. bit (learns x w c r && busy w l)) [] cs
unfolding knows learns
hit-before cs l c r x w e other in_w later h =
    let v = who_learned x c r h in
    let got = v.1 in
    let alike = knows_same r c v.0 w x (source x v.0 c r got).gets in_w in
    let f = begins (λ r. knows r w x) (grind (arith, nat_tests)) l (c ∷ r) (grind arith) in
    let still = f.since w later in
    let here = f.holds in
    counted (λ l c r. learns x w c r && busy w l) cs (found_at (λ l c r. learns x w c r && busy w l) cs f.later f.at f.earlier (rw e at f.is) (grind arith))

-- no call is the first and the last of a hut that is in three
not_alone :
    (cs l : List Call) (c : Call) (r : List Call) → whole l (c ∷ r) ≡ cs → 3 ≤ deg c.a [] cs → (not (busy c.a r) && not (busy c.a l)) ≡ false
unfolding total
not_alone cs l c r e three =
    let all : deg c.a l (c ∷ r) + deg c.a (c ∷ r) l ≡ deg c.a [] cs = rw e at (total_shift (λ _ d _. bit (with_either c.a d)) l (c ∷ r)) in
    let here : with_either c.a c ≡ true = grind (arith, nat_tests) in
    let before = deg_none c.a (c ∷ l) r in
    let after = deg_none c.a (c ∷ r) l in
    grind arith

-- A call is of two huts, so not every hut is in four.
poor : (n : ℕ) (cs : List Call) → length cs < 2 * n → (x : ℕ) × (x < n) × (leb 4 (deg x [] cs) ≡ false)
poor n cs few =
    elim (all_or_one (λ w. leb 4 (deg w [] cs)) n) [
      | inr one ↦ one
      | inl four ↦
          let all = many_all n in
          let count =
          two_ways n 4 (λ _. true) (λ _ c _ w. with_either w c) (λ _ _ _. 2) cs (λ w l _. leb-true 4 (deg w [] cs) (four w l))
          (λ l c r e. many_two (λ w. with_either w c) true c.a c.e n (λ w h. h) (λ w l h. refl))
          in
          let twos = total_const 2 [] cs in
          absurd (omega arith)
    ]

module _ (n : ℕ) (cs : List Call) (q : Quiet n cs) where
  -- each other hut learns what x saw at some place
  forth : (x : ℕ) → x < n → n ≤ 1 + total (λ l c r. bit (learned x c r)) [] cs
  unfolding knows
  forth x there = spreads n x cs (λ w l. let v = (q [] cs refl).meet w x l there in rw (eqb→eq v.hut w v.after) at v.before)

  -- each hut has a first call, and a call is the first of two huts at most
  firsts : ((w : ℕ) → w < n → 3 ≤ deg w [] cs) → n ≤ total (λ l c r. 2 * bit (not (busy c.a r))) [] cs
  unfolding busy
  firsts three =
      let all = many_all n in
      let count =
      two_ways n 1 (λ _. true) (λ l c r w. busy w (c ∷ r) && not (busy w r)) (λ l c r. 2 * bit (not (busy c.a r))) cs
      (λ w l _. let some = three w l in let none = deg_none w [] cs in counted (λ l c r. busy w (c ∷ r) && not (busy w r)) cs (begins (busy w) refl [] cs (grind arith)))
      (λ l c r e.
      many_two (λ w. busy w (c ∷ r) && not (busy w r)) (not (busy c.a r)) c.a c.e n (λ w h. grind (arith, nat_tests))
      (λ w _ h. let both = together (place n cs q l c r e) w c.a (grind (arith, nat_tests)) (grind (arith, nat_tests)) in grind arith))
      in
      omega arith

  -- where one learns what x saw and one tells x, x is in the call
  one_each :
      (x : ℕ) (l : List Call) (c : Call) (r : List Call) → whole l (c ∷ r) ≡ cs → x < n →
      (bit (learned x c r) + bit (learned x c l)) + bit (idle x l c r) ≤ 1 + bit (with_either x c)
  one_each x l c r e there =
      elim (cases_Bool (learned x c r && learned x c l)) [
        | inr not-both ↦ grind arith
        | inl both ↦
            let w = who_learned x c r (grind arith) in
            let v = who_learned x c l (grind arith) in
            let in_x = (learn_tell (place n cs q l c r e) x w.0 v.0 there w.1 v.1).0 in
            grind arith
      ]

  -- at a place one hut is hit at most, and only if the call is in the middle or of x
  one_hit : (x : ℕ) (l : List Call) (c : Call) (r : List Call) → whole l (c ∷ r) ≡ cs → x < n → how_many (hit x l c r) n ≤ bit (middle l c r || with_either x c)
  one_hit x l c r e there =
      let p : Place n l c r = place n cs q l c r e in
      many_one (hit x l c r) (middle l c r || with_either x c) n
      (λ w v h k.
      let both_learn = learns_one x w v c r in
      let both_tell = learns_one x w v c l in
      let one_tells : learns x w c r ≡ true → learns x v c l ≡ true → w ≡ v = λ s t. (learn_tell p x w v there s t).1 in
      let other_tells : learns x v c r ≡ true → learns x w c l ≡ true → v ≡ w = λ s t. (learn_tell p x v w there s t).1 in
      grind arith)
      (λ w _ h.
      let learning = on_the_way p x w in
      let telling = on_the_way (place-turned p) x w in
      grind arith)

-- The same in turned time, and both together.
module _ (n : ℕ) (cs : List Call) (q : Quiet n cs) where
  -- Each other hut learns what x saw at some place and tells x at some place; one place serves for both only if x is in the call.
  balance : (x : ℕ) → x < n → 2 * n + idles cs x ≤ (length cs + deg x [] cs) + 2
  balance x there =
      let to_all = forth n cs q x there in
      let from_all : n ≤ 1 + total (λ l c r. bit (learned x c l)) [] cs =
      rw (total-turned (λ l c r. bit (learned x c r)) cs) at (forth n (whole cs []) (quiet_turned n cs q) x there)
      in
      let each =
      total_three (λ l c r. bit (learned x c r)) (λ l c r. bit (learned x c l)) (λ l c r. bit (idle x l c r)) (λ l c r. 1 + bit (with_either x c)) cs
      (λ l c r e. one_each n cs q x l c r e there)
      in
      let sum = total_add (λ _ _ _. 1) (λ _ c _. bit (with_either x c)) [] cs in
      let ones = total_const 1 [] cs in
      omega arith

  -- Each hut has a first call and a last one, and a call is the first of two at most, or the last of two, or in the middle.
  middle_few : ((w : ℕ) → w < n → 3 ≤ deg w [] cs) → n + middles cs ≤ length cs
  unfolding among
  middle_few three =
      let start = firsts n cs q three in
      let end : n ≤ total (λ l c r. 2 * bit (not (busy c.a l))) [] cs =
      rw (total-turned (λ l c r. 2 * bit (not (busy c.a r))) cs) at
      (firsts n (whole cs []) (quiet_turned n cs q) (λ w l. rw (total-turned (λ _ c _. bit (with_either w c)) cs) (three w l)))
      in
      let each =
      total_three (λ l c r. 2 * bit (not (busy c.a r))) (λ l c r. 2 * bit (not (busy c.a l))) (λ l c r. bit (middle l c r) + bit (middle l c r)) (λ _ _ _. 2) cs
      (λ l c r e. let apart = (q l (c ∷ r) e).apart.1 in let alone = not_alone cs l c r e (three c.a (grind (arith, nat_tests))) in grind arith)
      in
      let twice = total_add (λ l c r. bit (middle l c r)) (λ l c r. bit (middle l c r)) [] cs in
      let twos = total_const 2 [] cs in
      omega arith

  -- A hut in three calls has one between two others. If that place is not idle for x, the hut has learnt what x saw there or before, or tells x there or later.
  some-hit : (x w : ℕ) → idles cs x ≡ 0 → (w ≡ x → ⊥) → 3 ≤ deg w [] cs → 1 ≤ total (λ l c r. bit (hit x l c r w)) [] cs
  unfolding busy
  some-hit x w none other three =
      let f = between w [] cs (omega arith) in
      let h = f.holds in
      let no_idle : idle x f.later f.at f.earlier ≡ true → 1 ≤ idles cs x =
      λ t. counted (idle x) cs (found_at (idle x) cs f.later f.at f.earlier f.is t)
      in
      elim (cases_Bool (learned x f.at f.earlier)) [
        | inl learning ↦
            let one = hit-before cs f.later f.at f.earlier x w f.is other (grind arith) (grind arith) learning in
            let more = total_mono (λ l c r. bit (learns x w c r && busy w l)) (λ l c r. bit (hit x l c r w)) [] cs (λ l c r e. grind arith) in
            omega arith
        | inr no-learning ↦
            let one = hit-before (whole cs []) f.earlier f.at f.later x w (turned_at (f.at ∷ f.later) f.earlier cs f.is) other (grind arith) (grind arith) (grind arith) in
            let turned = total-turned (λ l c r. bit (learns x w c r && busy w l)) cs in
            let more = total_mono (λ l c r. bit (learns x w c l && busy w r)) (λ l c r. bit (hit x l c r w)) [] cs (λ l c r e. grind arith) in
            omega arith
      ]

  -- Some hut x is in three calls only: then more huts are hit than there are places in the middle or of x.
  pub unheard : 2 * n ≤ length cs + 4
  unheard =
      elim (cases_lt (length cs + 4) (2 * n)) [
        | inr enough ↦ enough
        | inl few ↦
            let three : (w : ℕ) → w < n → 3 + idles cs w ≤ deg w [] cs = λ w l. let b = balance w l in omega arith in
            let one = poor n cs (omega arith) in
            let x : ℕ = one.0 in
            let most : deg x [] cs < 4 = leb-false 4 (deg x [] cs) one.2 in
            let least = three x one.1 in
            let others = many_others x n in
            let count =
            two_ways n 1 (λ w. not (eqb w x)) (hit x) (λ l c r. bit (middle l c r) + bit (with_either x c)) cs
            (λ w l other. let t = three w l in some-hit x w (omega arith) (λ e. grind (arith, nat_tests)) (omega arith))
            (λ l c r e. let at_most = one_hit n cs q x l c r e one.1 in grind arith)
            in
            let sum = total_add (λ l c r. bit (middle l c r)) (λ _ c _. bit (with_either x c)) [] cs in
            let few_middle = middle_few (λ w l. let t = three w l in omega arith) in
            absurd (omega arith)
      ]
