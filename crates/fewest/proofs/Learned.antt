-- Where huts learn what a hut saw: one hut's news takes n - 1 calls. Assumes nothing.
--     learns x w c es     in the call c, made after the calls es, hut w learns what x saw
--     learned x c es      one of the two does
-- In turned time, with the calls ts that come after c in the place of es, it says that the hut w tells x: through ts what w knows does not come
-- to x, and through c and ts it does.
use Rattle.std.proofs.Common.{◌≡◌, ℕ, ◌+◌, ◌<◌, ◌≤◌, Bool, true, false, not, ◌&&◌, ◌||◌, T, eqb, List, [], ◌∷◌, length, inl, inr, arith}
use lib.ListN.{length-reverse_aux}
use Rattle.std.proofs.lemmas.Bool.{cases_Bool, cases_eq}
use Rattle.std.proofs.lemmas.Bool.Decides.{nat_tests}
use Rattle.calls.specs.Call.{Call, knows, with_either}
use Rattle.calls.proofs.Known.{knows_from, From, turned}
use Rattle.fewest.specs.Fewest.{OneToAll, AllToOne}
use Rattle.fewest.proofs.Counts.{bit, many_others, many_one, whole, total, total_const, total_mono, two_ways, begins, counted}

unfoldable pub learns : ℕ → ℕ → Call → List Call → Bool
learns x w c es = knows (c ∷ es) w x && not (knows es w x)

unfoldable pub learned : ℕ → Call → List Call → Bool
learned x c es = learns x c.a c es || learns x c.e c es

-- who learns what x saw is in the call, and learns it from the other hut in it
pub record Source (x w : ℕ) (c : Call) (es : List Call) : Type 0 where
  pub hut : ℕ
  pub knew : T (knows es hut x)
  pub lacked : knows es w x ≡ false
  pub gives : with_either hut c ≡ true
  pub gets : with_either w c ≡ true
  pub differ : hut ≡ w → ⊥

pub source : (x w : ℕ) (c : Call) (es : List Call) → learns x w c es ≡ true → Source x w c es
unfolding learns
source x w c es h =
    let f : From c es w x = knows_from es c w x (grind arith) in
    let lacked : knows es w x ≡ false = grind arith in
    let knew = f.knew in
    let differ : f.hut ≡ w → ⊥ = λ e. let k : T (knows es w x) = rw e at knew in grind arith in
    elim f.near [ inl itself ↦ absurd (differ itself) | inr both ↦ record { hut = f.hut; knew = knew; lacked = lacked; gives = both.1; gets = both.0; differ = differ } ]

-- only one of the two learns it
pub learns_one : (x w v : ℕ) (c : Call) (es : List Call) → learns x w c es ≡ true → learns x v c es ≡ true → w ≡ v
learns_one x w v c es p q =
    let s : Source x w c es = source x w c es p in
    let t : Source x v c es = source x v c es q in
    let not_v : s.hut ≡ v → ⊥ = λ e. let k = rw e at s.knew in let l = t.lacked in grind arith in
    let not_w = s.differ in
    let in_hut = s.gives in
    let in_w = s.gets in
    let in_v = t.gets in
    grind (arith, nat_tests)

-- who learns it is one of the two
learned_from : (x w : ℕ) (c : Call) (es : List Call) → learns x w c es ≡ true → learned x c es ≡ true
unfolding learned
learned_from x w c es h =
    elim (cases_eq w c.a) [
      | inl first ↦ let e : learns x c.a c es ≡ true = rw first at h in grind arith
      | inr other ↦ let in_it = (source x w c es h).gets in let last : w ≡ c.e = grind (arith, nat_tests) in let e : learns x c.e c es ≡ true = rw last at h in grind arith
    ]

pub who_learned : (x : ℕ) (c : Call) (es : List Call) → learned x c es ≡ true → (w : ℕ) × (learns x w c es ≡ true)
unfolding learned
who_learned x c es h = elim (cases_Bool (learns x c.a c es)) [ inl first ↦ (c.a, first) | inr other ↦ (c.e, grind arith) ]

-- If what x saw comes to everybody, each other hut learns it at some call, and no two at one call.
pub spreads : (n x : ℕ) (cs : List Call) → ((w : ℕ) → w < n → T (knows cs w x)) → n ≤ 1 + total (λ l c r. bit (learned x c r)) [] cs
unfolding knows learns
spreads n x cs all =
    let others = many_others x n in
    let count =
    two_ways n 1 (λ w. not (eqb w x)) (λ l c r w. learns x w c r) (λ l c r. bit (learned x c r)) cs
    (λ w l other. let known = all w l in counted (λ l c r. learns x w c r) cs (begins (λ r. knows r w x) (grind (arith, nat_tests)) [] cs (grind arith)))
    (λ l c r e. many_one (λ w. learns x w c r) (learned x c r) n (λ w v. learns_one x w v c r) (λ w _. learned_from x w c r))
    in
    omega arith

-- a call of which somebody learns it is a call
learned_most : (x : ℕ) (cs : List Call) → total (λ l c r. bit (learned x c r)) [] cs ≤ length cs
learned_most x cs =
    let all = total_const 1 [] cs in
    let each = total_mono (λ l c r. bit (learned x c r)) (λ _ _ _. 1) [] cs (λ l c r e. grind arith) in
    omega arith

pub one_to_all : OneToAll
one_to_all n cs i l all = let count = spreads n i cs all in let most = learned_most i cs in omega arith

pub all_to_one : AllToOne
all_to_one n cs i l all =
    let count = one_to_all n (whole cs []) i l (λ k p. rw (turned cs i k) (all k p)) in
    let size : length (whole cs []) ≡ length cs + 0 = length-reverse_aux cs [] in
    omega arith
