-- A list of lines looked at line by line. Assumes nothing.
use Rattle.std.proofs.Common.{◌≡◌, ℕ, ◌-◌, ◌%◌, ◌≤◌, eqb, List, [], ◌∷◌, length, get_or, take, drop, Some, None, refl, inl, inr, arith}
use Rattle.std.proofs.lemmas.Bool.{cases_Bool}
use Rattle.std.proofs.lemmas.Bool.Decides.{nat_tests}
use Rattle.calls.specs.Call.{hut_count}
use Rattle.rows.specs.Rows.{early}
use Rattle.std.proofs.lemmas.List.{take_rest}
use Rattle.faults.specs.declared.Fault.{Fault}
use Rattle.lines.specs.Line.{fault_of, wrong_after, wrong}

-- the next line has a fault
pub wrong_here : (n p q : ℕ) (left : List ℕ) (f : Fault) → 2 ≤ length left → Some f ≡ fault_of n p q (get_or left 0 0) (get_or left 1 0) → Some f ≡ wrong_after n p q left
unfolding wrong_after
wrong_here n p q [] f h e = absurd (omega arith)
wrong_here n p q (a ∷ []) f h e = absurd (omega arith)
wrong_here n p q (a ∷ b ∷ left) f h e = rw (← e)

-- it has none, so what comes after it decides
pub wrong_later :
    (n p q : ℕ) (left : List ℕ) → 2 ≤ length left → None ≡ fault_of n p q (get_or left 0 0) (get_or left 1 0) →
    wrong_after n (get_or left 0 0) (get_or left 1 0) (take (length left - 2) (drop 2 left)) ≡ wrong_after n p q left
unfolding wrong_after
wrong_later n p q [] h e = absurd (omega arith)
wrong_later n p q (a ∷ []) h e = absurd (omega arith)
wrong_later n p q (a ∷ b ∷ left) h e = rw (take_rest (a ∷ (b ∷ left)) 2, ← e)

-- no line is left
pub wrong_none : (n p q : ℕ) (left : List ℕ) → length left ≤ 1 → None ≡ wrong_after n p q left
unfolding wrong_after
wrong_none n p q [] h = refl
wrong_none n p q (a ∷ []) h = refl
wrong_none n p q (a ∷ b ∷ left) h = absurd (omega arith)

-- a list without a fault in itself
pub early_none : (n : ℕ) (xs : List ℕ) → early n xs ≡ None → (1 ≤ n) × (n ≤ 1024) × (wrong n xs ≡ None)
early_none n xs h =
    elim (cases_Bool (hut_count n)) [
      | inr away ↦ let z : ◌≡◌ {A = ℕ} 0 1 = let h' = rw away at h in cc in absurd (omega arith)
      | inl there ↦
          elim (cases_Bool (eqb (length xs % 2) 1)) [
            | inl odd ↦ let z : ◌≡◌ {A = ℕ} 0 1 = let h' = rw (there, odd) at h in cc in absurd (omega arith)
            | inr even ↦ (grind (arith, nat_tests), grind (arith, nat_tests), rw (there, even) at h)
          ]
    ]
