-- A list of calls comes to one outcome only. Assumes nothing.
use Rattle.std.proofs.Common.{◌≡◌, ℕ, ◌*◌, ◌%◌, ◌<◌, ◌≤◌, T, List, [], ◌∷◌, length, take, drop, sym, ap, inl, inr, arith, take-append-drop}
use Rattle.std.proofs.lemmas.List.{length-take}
use Rattle.std.proofs.lemmas.Bool.{cases_order}
use Rattle.calls.specs.Call.{Call, call, knows}
use Rattle.calls.specs.Number.{onto, calls}
use Rattle.calls.proofs.Known.{onward}
use Rattle.calls.proofs.Numbers.{onto-append}
use Rattle.knowledge.specs.declared.Outcome.TheVariants.{Complete, Lacks}
use Rattle.knowledge.specs.Outcome.{CompleteAfter, LowestLack}
use Rattle.knowledge.specs.Law.{OneOutcome}

-- calls that come after take nothing away
knows-onto : (cs : List Call) (xs : List ℕ) (i k : ℕ) → T (knows cs i k) → T (knows (onto cs xs) i k)
unfolding onto
knows-onto cs [] i k t = t
knows-onto cs (a ∷ []) i k t = t
knows-onto cs (a ∷ e ∷ xs) i k t = knows-onto (call a e ∷ cs) xs i k (onward cs (call a e) i k t)

-- so what is known after the first calls is known after all
knows_after_all : (xs : List ℕ) (m i k : ℕ) → 2 * m ≤ length xs → T (knows (calls (take (2 * m) xs)) i k) → T (knows (calls xs) i k)
knows_after_all xs m i k l t =
    let even : length (take (2 * m) xs) % 2 ≡ 0 = rw length-take (omega arith) in
    let all : calls xs ≡ onto (calls (take (2 * m) xs)) (drop (2 * m) xs) = rw (take-append-drop (2 * m) xs) at (onto-append [] (take (2 * m) xs) (drop (2 * m) xs) even) in
    rw all (knows-onto (calls (take (2 * m) xs)) (drop (2 * m) xs) i k t)

same_complete : (n : ℕ) (xs : List ℕ) (k m : ℕ) → CompleteAfter n xs k → CompleteAfter n xs m → k ≡ m
same_complete n xs k m p q =
    elim (cases_order k m) [
      | inl same ↦ same
      | inr apart ↦ elim apart [ inl less ↦ absurd (q.first k less p.all) | inr more ↦ absurd (p.first m more q.all) ]
    ]

never_both : (n : ℕ) (xs : List ℕ) (k i j : ℕ) → CompleteAfter n xs k → LowestLack n xs i j → ⊥
never_both n xs k i j p q =
    let t = knows_after_all xs k i j p.there (p.all i j q.hut q.other) in
    let f = q.lacks in
    grind arith

-- of two lowest huts neither is lower, and so of the lowest that they lack
not_lower_hut : (n : ℕ) (xs : List ℕ) (i j i' j' : ℕ) → LowestLack n xs i j → LowestLack n xs i' j' → i < i' → ⊥
not_lower_hut n xs i j i' j' p q less =
    let t = q.huts_before i j less p.other in
    let f = p.lacks in
    grind arith

not_lower_other : (n : ℕ) (xs : List ℕ) (i j i' j' : ℕ) → LowestLack n xs i j → LowestLack n xs i' j' → i ≡ i' → j < j' → ⊥
not_lower_other n xs i j i' j' p q same less =
    let t = q.others_before j less in
    let f = rw same at p.lacks in
    grind arith

same_lack : (n : ℕ) (xs : List ℕ) (i j i' j' : ℕ) → LowestLack n xs i j → LowestLack n xs i' j' → (i ≡ i') × (j ≡ j')
same_lack n xs i j i' j' p q =
    let hut : i ≡ i' =
    elim (cases_order i i') [
      | inl same ↦ same
      | inr apart ↦ elim apart [ inl less ↦ absurd (not_lower_hut n xs i j i' j' p q less) | inr more ↦ absurd (not_lower_hut n xs i' j' i j q p more) ]
    ]
    in
    let other : j ≡ j' =
    elim (cases_order j j') [
      | inl same ↦ same
      | inr apart ↦ elim apart [ inl less ↦ absurd (not_lower_other n xs i j i' j' p q hut less) | inr more ↦ absurd (not_lower_other n xs i' j' i j q p (sym hut) more) ]
    ]
    in
    (hut, other)

pub one_outcome : OneOutcome
one_outcome n xs (Complete k) (Complete m) p q = ap Complete (same_complete n xs k m p q)
one_outcome n xs (Complete k) (Lacks i j) p q = absurd (never_both n xs k i j p q)
one_outcome n xs (Lacks i j) (Complete k) p q = absurd (never_both n xs k i j q p)
one_outcome n xs (Lacks i j) (Lacks i' j') p q = let same = same_lack n xs i j i' j' p q in λ d. Lacks (same.0 d) (same.1 d)
