-- The plan for huts that can all call each other does it, and with the fewest calls. Assumes nothing.
use Rattle.std.proofs.Common.{◌≡◌, ℕ, zero, suc, ◌+◌, ◌-◌, ◌*◌, ◌<◌, ◌≤◌, false, T, ltb, List, [], ◌∷◌, ◌++◌, length, vec_items, sym, refl, ap, ◌∙◌, inl, inr, append-nil, arith, length-append}
use Rattle.std.proofs.lemmas.Bool.{cases_lt, cond-false}
use Rattle.std.proofs.lemmas.Bool.Decides.{nat_tests}
use Rattle.calls.specs.Call.{Call, call, knows, among, AllKnow, Holds}
use Rattle.calls.proofs.Known.{onward, keeps, knows_own, knows_first, knows_second, robust}
use Rattle.calls.specs.Number.{numbers}
use Rattle.calls.proofs.Numbers.{numbers-append}
use Rattle.fewest.proofs.Learned.{one_to_all}
use Rattle.fewest.proofs.Fewest.{none_fewer, as_many_as_huts}
use Rattle.plans.specs.declared.Plan.{Plan}
use Rattle.plans.specs.Complete.{hub, round, plan, written}
use Rattle.plans.specs.Answer.{Planned, middle}

-- hut 0 has heard from each hut that it called
gathers : (m k : ℕ) → k < m → T (knows (hub m) 0 (k + 4))
unfolding hub
gathers zero k h = absurd (omega arith)
gathers (suc m) k h =
    elim (cases_lt k m) [
      | inl lt ↦ onward (hub m) (call 0 (m + 4)) 0 (k + 4) (gathers m k lt)
      | inr ge ↦
          let e : k ≡ m = omega arith in
          rw e (knows_second (hub m) (call 0 (m + 4)) 0 (m + 4) (grind (arith, nat_tests)) (knows_own (hub m) (m + 4)))
    ]

-- hut 0 has told each hut that it called what it knew
spreads : (cs : List Call) (m i k : ℕ) → i < m → T (knows cs 0 k) → T (knows (hub m ++ cs) (i + 4) k)
unfolding hub
spreads cs zero i k h t = absurd (omega arith)
spreads cs (suc m) i k h t =
    elim (cases_lt i m) [
      | inl lt ↦ onward (hub m ++ cs) (call 0 (m + 4)) (i + 4) k (spreads cs m i k lt t)
      | inr ge ↦
          let e : i ≡ m = omega arith in
          rw e (knows_first (hub m ++ cs) (call 0 (m + 4)) (m + 4) k (grind (arith, nat_tests)) (keeps (hub m) cs 0 k t))
    ]

-- once the four have gone round, each of them knows what any of them knew
rounds : (cs : List Call) (i j k : ℕ) → i < 4 → j < 4 → T (knows cs j k) → T (knows (round ++ cs) i k)
unfolding knows
rounds cs i j k p q t = grind (arith, nat_tests)

-- after the round each of the four knows what each hut saw
four_know : (m i k : ℕ) → i < 4 → k < m + 4 → T (knows (round ++ hub m) i k)
four_know m i k p q =
    elim (cases_lt k 4) [
      | inl low ↦ rounds (hub m) i k k p low (knows_own (hub m) k)
      | inr high ↦
          let e : (k - 4) + 4 ≡ k = omega arith in
          rounds (hub m) i 0 k p (omega arith) (rw e at (gathers m (k - 4) (omega arith)))
    ]

pub all_know : (n : ℕ) → AllKnow n (plan n)
unfolding plan knows
all_know zero i k p q = absurd (omega arith)
all_know (suc zero) i k p q = grind (arith, nat_tests)
all_know (suc (suc zero)) i k p q = grind (arith, nat_tests)
all_know (suc (suc (suc zero))) i k p q = grind (arith, nat_tests)
all_know (suc (suc (suc (suc m)))) i k p q =
    elim (cases_lt i 4) [
      | inl low ↦ keeps (hub m) (round ++ hub m) i k (four_know m i k low (omega arith))
      | inr high ↦
          let e : (i - 4) + 4 ≡ i = omega arith in
          rw e at (spreads (round ++ hub m) m (i - 4) k (omega arith) (four_know m 0 k (omega arith) (omega arith)))
    ]

pub all_know_with_others : (n : ℕ) (cs : List Call) → Holds (plan n) cs → AllKnow n cs
all_know_with_others n cs h i k p q = robust (plan n) cs h i k (all_know n i k p q)

among-hub : (n m : ℕ) (cs : List Call) → m + 4 ≤ n → T (among n cs) → T (among n (hub m ++ cs))
unfolding hub among
among-hub n zero cs h t = t
among-hub n (suc m) cs h t = let u = among-hub n m cs (omega arith) t in grind (arith, nat_tests)

pub among-plan : (n : ℕ) → T (among n (plan n))
unfolding plan among
among-plan zero = tt
among-plan (suc zero) = tt
among-plan (suc (suc zero)) = tt
among-plan (suc (suc (suc zero))) = tt
among-plan (suc (suc (suc (suc m)))) =
    let t : T (among (suc (suc (suc (suc m)))) (hub m)) = rw append-nil at (among-hub (suc (suc (suc (suc m)))) m [] (omega arith) tt) in
    among-hub (suc (suc (suc (suc m)))) m (round ++ hub m) (omega arith) (grind (arith, nat_tests))

length-hub : (m : ℕ) → length (hub m) ≡ m
unfolding hub
length-hub zero = refl
length-hub (suc m) = ap suc (length-hub m)

pub length-plan : (n : ℕ) → 4 ≤ n → length (plan n) ≡ 2 * n - 4
unfolding plan
length-plan zero h = absurd (omega arith)
length-plan (suc zero) h = absurd (omega arith)
length-plan (suc (suc zero)) h = absurd (omega arith)
length-plan (suc (suc (suc zero))) h = absurd (omega arith)
length-plan (suc (suc (suc (suc m)))) h = simp (length-append, length-hub) (omega arith)

pub length_plan_few : (n : ℕ) → 2 ≤ n → n < 4 → length (plan n) ≡ 2 * n - 3
unfolding plan
length_plan_few zero h l = absurd (omega arith)
length_plan_few (suc zero) h l = absurd (omega arith)
length_plan_few (suc (suc zero)) h l = refl
length_plan_few (suc (suc (suc zero))) h l = refl
length_plan_few (suc (suc (suc (suc m)))) h l = absurd (omega arith)

-- no list of calls that does it has fewer
pub least : (n : ℕ) (cs : List Call) → T (among n cs) → AllKnow n cs → length (plan n) ≤ length cs
unfolding plan
least zero cs apart all = omega arith
least (suc zero) cs apart all = omega arith
least (suc (suc zero)) cs apart all = one_to_all 2 cs 0 (omega arith) (λ k l. all k 0 l (omega arith))
least (suc (suc (suc zero))) cs apart all = as_many_as_huts 3 (omega arith) cs all
least (suc (suc (suc (suc m)))) cs apart all =
    let count = length-plan (suc (suc (suc (suc m)))) (omega arith) in
    let bound = none_fewer (suc (suc (suc (suc m)))) (omega arith) cs apart all in
    omega arith

-- what is written down is the plan
pub written-plan : (n : ℕ) → written n ≡ numbers (plan n)
unfolding plan numbers
written-plan zero = refl
written-plan (suc zero) = refl
written-plan (suc (suc zero)) = refl
written-plan (suc (suc (suc zero))) = refl
written-plan (suc (suc (suc (suc m)))) =
    let e : suc (suc (suc (suc m))) - 4 ≡ m = omega arith in
    let four : ltb (suc (suc (suc (suc m)))) 4 ≡ false = grind (arith, nat_tests) in
    cond-false (ltb (suc (suc (suc (suc m)))) 4) _ _ four ∙ rw e (sym (numbers-append (hub m) (round ++ hub m) ∙ ap (λ xs. xs ++ numbers (hub m)) (numbers-append round (hub m))))

-- one hut calls nobody
pub numbers_none : (n : ℕ) → n < 2 → [] ≡ numbers (plan n)
unfolding plan numbers
numbers_none zero h = refl
numbers_none (suc zero) h = refl
numbers_none (suc (suc n)) h = absurd (omega arith)

-- one more hut is called
pub numbers_hub_more : (h : ℕ) → 4 ≤ h → numbers (hub (h + 1 - 4)) ≡ numbers (hub (h - 4)) ++ (0 ∷ (h ∷ []))
unfolding hub numbers
numbers_hub_more h l =
    let e : h + 1 - 4 ≡ suc (h - 4) = omega arith in
    let f : (h - 4) + 4 ≡ h = omega arith in
    rw (e, f)

-- whoever has the prescribed calls and the middle has all that is promised
pub planned : (n : ℕ) (p : Plan) → vec_items p.calls ≡ written n → p.square ≡ middle n → Planned n p
planned n p calls square =
    record {
      listed = calls ∙ written-plan n;
      apart = among-plan n;
      all_know = all_know n;
      with_others = all_know_with_others n;
      least = least n;
      count = length-plan n;
      count_few = length_plan_few n;
      square = square;
    }
