-- A list of calls looked at call by call. Assumes nothing.
use Rattle.std.proofs.Common.{◌≡◌, ℕ, ◌-◌, ◌/◌, ◌%◌, ◌<◌, ◌≤◌, true, false, ◌&&◌, eqb, ltb, List, [], ◌∷◌, length, get_or, take, drop, vec_items, Some, None, refl, inl, inr, arith}
use Rattle.std.proofs.lemmas.List.{take_rest}
use Rattle.std.proofs.lemmas.Bool.{cases_Bool}
use Rattle.std.proofs.lemmas.Bool.Decides.{nat_tests}
use Rattle.faults.specs.declared.Fault.{Fault}
use Rattle.faults.specs.declared.Fault.TheVariants.{NoLine}
use Rattle.calls.specs.Call.{hut_count}
use Rattle.knowledge.specs.Outcome.{below, refusal}
use Rattle.sets.specs.Set.{in_set, row_of}
use Rattle.lines.specs.Line.{Lines}
use Rattle.rows.specs.declared.table.Rows.{Rows}
use Rattle.rows.specs.Rows.{huts, told}
use Rattle.checks.specs.Call.{fault_of, wrong_call, call_fault}

-- two huts that are there, with a line between them or without
pub along-line : (rows : Rows) (a e : ℕ) → a < huts rows → e < huts rows → in_set (row_of (vec_items rows.of) a) e ≡ true → None ≡ fault_of (huts rows) (told rows) a e
unfolding told
along-line rows a e ha he t = grind (arith, nat_tests)

pub no_line : (rows : Rows) (a e : ℕ) → a < huts rows → e < huts rows → in_set (row_of (vec_items rows.of) a) e ≡ false → Some NoLine ≡ fault_of (huts rows) (told rows) a e
unfolding told
no_line rows a e ha he f = grind (arith, nat_tests)

-- the next call has a fault
pub wrong_here : (n : ℕ) (l : Lines) (left : List ℕ) (f : Fault) → 2 ≤ length left → Some f ≡ fault_of n l (get_or left 0 0) (get_or left 1 0) → Some f ≡ wrong_call n l left
unfolding wrong_call
wrong_here n l [] f h e = absurd (omega arith)
wrong_here n l (a ∷ []) f h e = absurd (omega arith)
wrong_here n l (a ∷ b ∷ left) f h e = rw (← e)

-- it has none, so what comes after it decides
pub wrong_later :
    (n : ℕ) (l : Lines) (left : List ℕ) → 2 ≤ length left → None ≡ fault_of n l (get_or left 0 0) (get_or left 1 0) → wrong_call n l (take (length left - 2) (drop 2 left)) ≡ wrong_call n l left
unfolding wrong_call
wrong_later n l [] h e = absurd (omega arith)
wrong_later n l (a ∷ []) h e = absurd (omega arith)
wrong_later n l (a ∷ b ∷ left) h e = rw (take_rest (a ∷ (b ∷ left)) 2, ← e)

-- no call is left
pub wrong_none : (n : ℕ) (l : Lines) (left : List ℕ) → length left ≤ 1 → None ≡ wrong_call n l left
unfolding wrong_call
wrong_none n l [] h = refl
wrong_none n l (a ∷ []) h = refl
wrong_none n l (a ∷ b ∷ left) h = absurd (omega arith)

-- where no call is wrong every number is that of a hut
pub all_there : (n : ℕ) (l : Lines) (ys : List ℕ) → length ys % 2 ≡ 0 → wrong_call n l ys ≡ None → below n ys ≡ true
unfolding wrong_call
all_there n l [] even h = refl
all_there n l (a ∷ []) even h = absurd (omega arith)
all_there n l (a ∷ e ∷ ys) even h =
    elim (cases_Bool (ltb a n && ltb e n)) [
      | inr away ↦ let z : ◌≡◌ {A = ℕ} 0 1 = let h' = rw away at h in cc in absurd (omega arith)
      | inl there ↦
          elim (cases_Bool (l a e)) [
            | inr none ↦ let z : ◌≡◌ {A = ℕ} 0 1 = let h' = rw (there, none) at h in cc in absurd (omega arith)
            | inl on ↦ let rest = all_there n l ys (omega arith) (rw (there, on) at h) in grind (arith, nat_tests)
          ]
    ]

-- a list of calls that is not refused where some lines are missing is not refused where none is
pub none_refused : (n : ℕ) (l : Lines) (m : ℕ) (ys : List ℕ) → hut_count n ≡ true → call_fault n l m ys ≡ None → refusal n ys ≡ None
none_refused n l m ys huts h =
    elim (cases_Bool (eqb m n)) [
      | inr other ↦ let z : ◌≡◌ {A = ℕ} 0 1 = let h' = rw other at h in cc in absurd (omega arith)
      | inl same ↦
          elim (cases_Bool (eqb (length ys % 2) 1)) [
            | inl odd ↦ let z : ◌≡◌ {A = ℕ} 0 1 = let h' = rw (same, odd) at h in cc in absurd (omega arith)
            | inr even ↦
                elim (cases_Bool (ltb 4096 (length ys / 2))) [
                  | inl long ↦ let z : ◌≡◌ {A = ℕ} 0 1 = let h' = rw (same, even, long) at h in cc in absurd (omega arith)
                  | inr short ↦
                      let pairs : length ys % 2 ≡ 0 = grind (arith, nat_tests) in
                      rw (huts, even, all_there n l ys pairs (rw (same, even, short) at h))
                ]
          ]
    ]
