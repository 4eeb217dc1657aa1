-- Moments of a list of calls, and own news that comes back. Assumes nothing.
--     Via ts es i k      a hut that knew of k at the moment, and from which it came to i afterwards
--     Moment n ts es     at the moment between es and ts: whatever i knows in the end comes to it so, and nobody gets its own news back
--     Quiet n cs         every moment of cs is such
-- At a moment the calls es were made, the latest first, and the calls ts are to come, the next one first. Read as a list of calls ts is in turned
-- time: knows ts w i says that what w knows at the moment comes to i. So whatever holds of es and ts holds of ts and es.
use Rattle.std.proofs.Common.{◌≡◌, ℕ, ◌<◌, true, ◌&&◌, T, eqb, List, [], ◌∷◌, ◌++◌, reverse, sym, refl, ap, ◌∙◌, inl, inr, arith, eqb→eq}
use mathlib.Core.List.{reverse-reverse, reverse_aux-eq, reverse_aux-reverse_aux-nil}
use Rattle.std.proofs.lemmas.Bool.{cases_Bool, cases_eq}
use Rattle.std.proofs.lemmas.Bool.Decides.{nat_tests}
use Rattle.calls.specs.Call.{Call, knows, with_either, among, AllKnow}
use Rattle.calls.specs.Law.{Between}
use Rattle.calls.proofs.Known.{onward, knows_own, knows_same, knows_from, From, alike, composes, turned}
use Rattle.fewest.specs.Own.{told_by, hears_in, hears, Back, ComesBack, NobodyHears}
use Rattle.fewest.proofs.Counts.{whole}

pub record Via (ts es : List Call) (i k : ℕ) : Type 0 where
  pub hut : ℕ
  pub after : T (knows ts hut i)
  pub before : T (knows es hut k)

via : (ts es : List Call) (i k : ℕ) → T (knows (whole ts es) i k) → Via ts es i k
via ts es i k t =
    let b : Between (reverse ts) es i k = (composes (reverse ts) es i k).parts (rw (reverse_aux-eq ts es) at t) in
    record { hut = b.hut; after = rw (turned ts b.hut i) at b.after; before = b.before }

-- the calls before and after a moment as they stand in the list
pub whole_append : (later earlier : List Call) → whole (whole later []) earlier ≡ later ++ earlier
whole_append later earlier = reverse_aux-eq (reverse later) earlier ∙ ap (λ l. l ++ earlier) (reverse-reverse later)

-- who has heard its own news has heard it
hears_later : (ts es : List Call) (x : ℕ) → T (hears es x) → T (hears (whole ts es) x)
unfolding hears
hears_later [] es x t = t
hears_later (c ∷ ts) es x t = hears_later ts (c ∷ es) x (grind arith)

-- If at some moment another hut knows what x saw, and that comes to x afterwards, then x hears its own news.
comes_back : (ts es : List Call) (x w : ℕ) → (w ≡ x → ⊥) → T (knows es w x) → T (knows ts w x) → T (hears (whole ts es) x)
unfolding knows hears
comes_back [] es x w other before after = absurd (other (eqb→eq w x after))
comes_back (c ∷ ts) es x w other before after =
    let f : From c ts w x = knows_from ts c w x after in
    elim (cases_eq f.hut x) [
      | inr still ↦ comes_back ts (c ∷ es) x f.hut still (rw (alike c ts w x f es x) (onward es c w x before)) f.knew
      | inl back ↦
          elim f.near [
            | inl itself ↦ absurd (other (sym itself ∙ back))
            | inr both ↦ hears_later ts (c ∷ es) x (grind (arith, nat_tests))
          ]
    ]

-- the hut by which x is told its own news in the call c, made after the calls cs
pub record Teller (c : Call) (cs : List Call) (x : ℕ) : Type 0 where
  pub hut : ℕ
  pub other : hut ≡ x → ⊥
  pub told : with_either x c ≡ true
  pub teller : with_either hut c ≡ true
  pub knew : T (knows cs hut x)

pub told_by_lem : (c : Call) (cs : List Call) (x : ℕ) → T (hears_in c cs x) → Teller c cs x
told_by_lem c cs x t =
    elim (cases_Bool (eqb x c.a && told_by c.e cs x)) [
      | inl first ↦ record { hut = c.e; other = λ e. grind (arith, nat_tests); told = grind (arith, nat_tests); teller = grind (arith, nat_tests); knew = grind (arith, nat_tests) }
      | inr second ↦ record { hut = c.a; other = λ e. grind (arith, nat_tests); told = grind (arith, nat_tests); teller = grind (arith, nat_tests); knew = grind (arith, nat_tests) }
    ]

-- The other way round: the moment before the call in which x is told its own news is such.
back_from : (cs : List Call) (x : ℕ) → T (hears cs x) → Back cs x
unfolding hears
back_from [] x t = absurd t
back_from (c ∷ cs) x t =
    elim (cases_Bool (hears_in c cs x)) [
      | inl told ↦
          let v : Teller c cs x = told_by_lem c cs x (grind arith) in
          let both = rw (knows_same [] c v.hut x v.hut v.teller v.told) at (onward [] c v.hut v.hut (knows_own [] v.hut)) in
          record { later = c ∷ []; earlier = cs; whole = refl; hut = v.hut; other = v.other; out = v.knew; back = both }
      | inr not_yet ↦
          let b : Back cs x = back_from cs x (grind arith) in
          record { later = c ∷ b.later; earlier = b.earlier; whole = ap (λ l. c ∷ l) b.whole; hut = b.hut; other = b.other; out = b.out; back = onward b.later c x b.hut b.back }
    ]

pub own_news : ComesBack
own_news cs x = (
  back_from cs x,
  λ b. rw (whole_append b.later b.earlier ∙ b.whole) at
      (comes_back (whole b.later []) b.earlier x b.hut b.other b.out (rw (turned b.later x b.hut) b.back)),
)

pub record Moment (n : ℕ) (ts es : List Call) : Type 0 where
  pub meet : (i k : ℕ) → i < n → k < n → Via ts es i k
  pub quiet : (x w : ℕ) → x < n → (w ≡ x → ⊥) → T (knows es w x) → T (knows ts w x) → ⊥
  pub apart : T (among n ts) × T (among n es)

pub moment_turned : {n : ℕ} {ts es : List Call} → Moment n ts es → Moment n es ts
moment_turned m =
    record {
      meet = λ i k p q. let v = m.meet k i q p in record { hut = v.hut; after = v.before; before = v.after };
      quiet = λ x w p other before after. m.quiet x w p other after before;
      apart = (m.apart.1, m.apart.0);
    }

abbrev pub Quiet : ℕ → List Call → Type 0
Quiet n cs = (ts es : List Call) → whole ts es ≡ cs → Moment n ts es

-- a moment of a list is one of the same list in turned time
pub turned_at : (ts es cs : List Call) → whole ts es ≡ cs → whole es ts ≡ whole cs []
turned_at ts es cs e = sym (reverse_aux-reverse_aux-nil ts es) ∙ ap (λ l. whole l []) e

pub quiet_turned : (n : ℕ) (cs : List Call) → Quiet n cs → Quiet n (whole cs [])
quiet_turned n cs q ts es e = moment_turned (q es ts (turned_at ts es (whole cs []) e ∙ reverse_aux-reverse_aux-nil cs []))

among_parts : (n : ℕ) (ts es : List Call) → T (among n (whole ts es)) → T (among n ts) × T (among n es)
unfolding among
among_parts n [] es t = (tt, t)
among_parts n (c ∷ ts) es t = let parts = among_parts n ts (c ∷ es) t in let u = parts.0 in let v = parts.1 in (grind arith, grind arith)

pub quiet_from : (n : ℕ) (cs : List Call) → T (among n cs) → AllKnow n cs → NobodyHears n cs → Quiet n cs
quiet_from n cs apart all nobody ts es e =
    record {
      meet = λ i k p q. via ts es i k (rw e (all i k p q));
      quiet = λ x w p other before after. let t : T (hears cs x) = rw e at (comes_back ts es x w other before after) in let f = nobody x p in grind arith;
      apart = among_parts n ts es (rw e apart);
    }
