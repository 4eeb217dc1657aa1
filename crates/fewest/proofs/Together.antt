-- Calls in a list in which nobody hears its own news: first calls are first for both, and last calls are last for both. Assumes nothing.
use Rattle.std.proofs.Common.{◌≡◌, ℕ, ◌<◌, true, false, ◌&&◌, ◌||◌, T, List, [], ◌∷◌, ◌++◌, sym, refl, ◌∙◌, inl, inr, arith}
use Rattle.std.proofs.lemmas.Bool.{cases_Bool, cases_eq}
use Rattle.std.proofs.lemmas.Bool.Decides.{nat_tests}
use Rattle.calls.specs.Call.{Call, knows, with_either, busy, among}
use Rattle.calls.proofs.Known.{onward, knows_own, knows_first, knows_second, knows_same, idle-knows, idle_known}
use Rattle.fewest.specs.Own.{FirstAndLast}
use Rattle.fewest.proofs.Counts.{whole}
use Rattle.fewest.proofs.Moments.{whole_append, Moment, moment_turned, Quiet, quiet_from}
use Rattle.fewest.proofs.Learned.{learns, Source, source}

-- the moments before and after the call c, made after the calls es and before the calls ts
pub record Place (n : ℕ) (ts : List Call) (c : Call) (es : List Call) : Type 0 where
  pub before : Moment n (c ∷ ts) es
  pub after : Moment n ts (c ∷ es)

pub place-turned : {n : ℕ} {ts es : List Call} {c : Call} → Place n ts c es → Place n es c ts
place-turned p = record { before = moment_turned p.after; after = moment_turned p.before }

pub place : (n : ℕ) (cs : List Call) → Quiet n cs → (ts : List Call) (c : Call) (es : List Call) → whole ts (c ∷ es) ≡ cs → Place n ts c es
place n cs q ts c es e = record { before = q (c ∷ ts) es e; after = q ts (c ∷ es) e }

-- another hut of which v knows
record Met (n : ℕ) (es : List Call) (v : ℕ) : Type 0 where
  hut : ℕ
  there : hut < n
  other : hut ≡ v → ⊥
  known : T (knows es v hut)

-- whoever has called knows of another
met : (n : ℕ) (es : List Call) (v : ℕ) → T (among n es) → busy v es ≡ true → Met n es v
unfolding among busy
met n [] v apart b = absurd (grind arith)
met n (c ∷ es) v apart b =
    elim (cases_eq v c.a) [
      | inl first ↦
          let known = knows_second es c v c.e (grind (arith, nat_tests)) (knows_own es c.e) in
          record { hut = c.e; there = grind (arith, nat_tests); other = λ e. grind (arith, nat_tests); known = known }
      | inr not_first ↦
          elim (cases_eq v c.e) [
            | inl second ↦
                let known = knows_first es c v c.a (grind (arith, nat_tests)) (knows_own es c.a) in
                record { hut = c.a; there = grind (arith, nat_tests); other = λ e. not_first (sym e); known = known }
            | inr neither ↦
                let m : Met n es v = met n es v (grind arith) (grind (arith, nat_tests)) in
                record { hut = m.hut; there = m.there; other = m.other; known = onward es c v m.hut m.known }
          ]
    ]

-- A first call is the first of both. Let it be the first of u, and let v know of z. What z comes to know of u it has from u or v after this call, and
-- v knows what z saw: so z would hear its own news.
first_both :
    {n : ℕ} {ts es : List Call} {c : Call} → Place n ts c es → (u v : ℕ) → u < n → with_either u c ≡ true → with_either v c ≡ true → busy u es ≡ false → busy v es ≡ true → ⊥
first_both {n} {ts} {es} {c} p u v there in-u in_v first called =
    let z : Met n es v = met n es v p.before.apart.1 called in
    let w = p.before.meet z.hut u z.there there in
    let own : w.hut ≡ u = idle_known es w.hut u first w.before in
    let comes : T (knows (c ∷ ts) u z.hut) = rw own at w.after in
    let back : T (knows (c ∷ ts) v z.hut) = rw (knows_same ts c u v z.hut in-u in_v) at comes in
    p.before.quiet z.hut v z.there (λ e. z.other (sym e)) z.known back

pub together : {n : ℕ} {ts es : List Call} {c : Call} → Place n ts c es → (u v : ℕ) → with_either u c ≡ true → with_either v c ≡ true → busy u es ≡ busy v es
unfolding among
together {n} p u v in-u in_v =
    let apart = p.after.apart.1 in
    let u_there : u < n = grind (arith, nat_tests) in
    let v_there : v < n = grind (arith, nat_tests) in
    let first_of_u = first_both p u v u_there in-u in_v in
    let first_of_v = first_both p v u v_there in_v in-u in
    grind arith

-- If one learns what x saw and one tells x in the same call, then x is in the call, and the two are the other hut in it: else x would hear its own news.
pub learn_tell :
    {n : ℕ} {ts es : List Call} {c : Call} → Place n ts c es → (x w v : ℕ) → x < n → learns x w c es ≡ true → learns x v c ts ≡ true → (with_either x c ≡ true) × (w ≡ v)
unfolding learns
learn_tell {n} {ts} {es} {c} p x w v there learning telling =
    let s : Source x w c es = source x w c es learning in
    let t : Source x v c ts = source x v c ts telling in
    let goes_on : T (knows (c ∷ ts) v x) = grind arith in
    let back : T (knows (c ∷ ts) s.hut x) = rw (knows_same ts c v s.hut x t.gets s.gives) at goes_on in
    let own : s.hut ≡ x = elim (cases_eq s.hut x) [ inl e ↦ e | inr other ↦ absurd (p.before.quiet x s.hut there other s.knew back) ] in
    let w_other : w ≡ x → ⊥ = λ e. let k = knows_own es x in let l = rw e at s.lacked in grind arith in
    let v_other : v ≡ x → ⊥ = λ e. let k = knows_own ts x in let l = rw e at t.lacked in grind arith in
    let in_x = rw own at s.gives in
    let in_w = s.gets in
    let in_v = t.gets in
    (in_x, grind (arith, nat_tests))

-- Who learns what x saw, and has a later call, learns it in a call that is neither first nor last, or from x.
pub on_the_way :
    {n : ℕ} {ts es : List Call} {c : Call} → Place n ts c es → (x w : ℕ) → learns x w c es ≡ true → busy w ts ≡ true → ((busy c.a es && busy c.a ts) || with_either x c) ≡ true
on_the_way {n} {ts} {es} {c} p x w h later =
    let s : Source x w c es = source x w c es h in
    let in_a : with_either c.a c ≡ true = grind (arith, nat_tests) in
    let w_before = together p w c.a s.gets in_a in
    let w_after = together (place-turned p) w c.a s.gets in_a in
    let hut_before = together p s.hut c.a s.gives in_a in
    elim (cases_Bool (busy c.a es)) [
      | inl middle ↦ grind arith
      | inr first ↦ let own = idle-knows es s.hut x (hut_before ∙ first) s.knew in let in_x = rw own at s.gives in grind arith
    ]

busy-whole : (i : ℕ) (ts es : List Call) → busy i (whole ts es) ≡ (busy i ts || busy i es)
unfolding busy
busy-whole i [] es = refl
busy-whole i (c ∷ ts) es = let rest = busy-whole i ts (c ∷ es) in grind arith

pub first_and_last : FirstAndLast
unfolding busy
first_and_last n later c earlier apart all nobody =
    let cs : List Call = later ++ (c ∷ earlier) in
    let p = place n cs (quiet_from n cs apart all nobody) (whole later []) c earlier (whole_append later (c ∷ earlier)) in
    let in_a : with_either c.a c ≡ true = grind (arith, nat_tests) in
    let in_e : with_either c.e c ≡ true = grind (arith, nat_tests) in
    let a_later = busy-whole c.a later [] in
    let e_later = busy-whole c.e later [] in
    let after = together (place-turned p) c.a c.e in_a in_e in
    record { before = together p c.a c.e in_a in_e; after = grind arith }
