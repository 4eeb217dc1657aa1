-- Lists of lines without a fault: lines go both ways, between different huts that are there. Assumes nothing.
use Rattle.std.proofs.Common.{◌≡◌, ℕ, ◌<◌, true, ◌&&◌, ltb, List, [], ◌∷◌, Some, None, Option, refl, inl, inr, arith}
use Rattle.std.proofs.lemmas.Bool.{cases_Bool}
use Rattle.std.proofs.lemmas.Bool.Decides.{nat_tests}
use Rattle.faults.specs.declared.Fault.{Fault}
use Rattle.lines.specs.Line.{line, after, fault_of, or_else, wrong_after}

pub line-both : (xs : List ℕ) (i k : ℕ) → line xs i k ≡ line xs k i
unfolding line
line-both [] i k = refl
line-both (a ∷ []) i k = refl
line-both (a ∷ e ∷ xs) i k = let rest = line-both xs i k in grind arith

-- where neither has a fault, the first has none, and nor has the second
pub or_else_none : (f g : Option Fault) → or_else f g ≡ None → (f ≡ None) × (g ≡ None)
or_else_none None g h = (refl, h)
or_else_none (Some f) g h = let z : ◌≡◌ {A = ℕ} 0 1 = cc in absurd (omega arith)

-- a line without a fault
no_fault : (n p q a e : ℕ) → fault_of n p q a e ≡ None → (a < n) × (e < n) × (a < e)
no_fault n p q a e h =
    elim (cases_Bool (ltb a n && ltb e n)) [
      | inl there ↦
          elim (cases_Bool (ltb a e && after p q a e)) [
            | inl rises ↦ (grind (arith, nat_tests), grind (arith, nat_tests), grind (arith, nat_tests))
            | inr falls ↦ let z : ◌≡◌ {A = ℕ} 0 1 = let h' = rw (there, falls) at h in cc in absurd (omega arith)
          ]
      | inr away ↦ let z : ◌≡◌ {A = ℕ} 0 1 = let h' = rw away at h in cc in absurd (omega arith)
    ]

-- lines without a fault are between different huts that are there
pub line-between : (n p q : ℕ) (xs : List ℕ) → wrong_after n p q xs ≡ None → (i k : ℕ) → line xs i k ≡ true → (i < n) × (k < n) × (i ≡ k → ⊥)
unfolding line wrong_after
line-between n p q [] h i k t = absurd (grind arith)
line-between n p q (a ∷ []) h i k t = absurd (grind arith)
line-between n p q (a ∷ e ∷ xs) h i k t =
    let parts = or_else_none (fault_of n p q a e) (wrong_after n a e xs) h in
    let here = no_fault n p q a e parts.0 in
    let ha = here.0 in
    let he = here.1 in
    let less = here.2 in
    elim (cases_Bool (line xs i k)) [
      | inl later ↦ line-between n a e xs parts.1 i k later
      | inr not-later ↦ (grind (arith, nat_tests), grind (arith, nat_tests), λ same. grind (arith, nat_tests))
    ]
