-- Calls of `next` on a chain of which the items are known, and numbers beside its items. Assumes nothing.
use Rattle.std.proofs.Common.{◌≡◌, ℕ, ◌+◌, ◌-◌, ◌<◌, ◌^◌, true, List, [], ◌∷◌, length, drop, Some, None, Option, MatchOption, option_map, slice_get, Bor, Bool, refl, ap, ◌∙◌, ⊎_elim, arith}
use denote.Param.Members.{Mut}
use Rattle.std.proofs.lemmas.Iterator.{YieldsList}
use Rattle.std.specs.Iterator.{AlwaysYields}
use Rattle.std.specs.Iterator.Adapters.{zip_first, zip_second, zip_steps}
use Rattle.std.specs.List.{enumerate_from}
use Rattle.std.specs.Slice.Iter.{split_steps, split_done}
use Rattle.std.specs.declared.iter.Zip.{Zip}
use Rattle.std.specs.declared.ops.RangeFrom.{RangeFrom}
use Rattle.std.specs.declared.slice.Split.{Split}

-- after `None` comes no item
abbrev pub IsFused : {S A : Type 0} → (S → Option A → S → Type 0) → Type 0
IsFused {S} {A} steps = (s t u : S) (x : A) → steps s None t → steps t (Some x) u → ⊥

-- `split`
split_ended : {A F : Type 0} (g : Mut F (Bor A × Unit {0}) Bool) → (s t : Split A F) → split_steps g s None t → split_done t ≡ true
split_ended g s t gave = ap split_done gave.1 ∙ gave.0

pub split_fused : {A F : Type 0} (g : Mut F (Bor A × Unit {0}) Bool) → IsFused (split_steps g)
split_fused g s t u x none some = let e = split_ended g s t none in let d = some.0 in absurd (cc)

module _ {S A B : Type 0} {steps : S → Option A → S → Type 0} {v : A → B} (fused : IsFused steps) where
  -- a call gives the first item that is left, if there is one, and leaves the others
  pub next_item : (s : S) (all : List B) → YieldsList steps v s all → (r : Option A) (t : S) → steps s r t → (option_map v r ≡ slice_get all 0) × YieldsList steps v t (drop 1 all)
  next_item s [] e None t gave = (refl, record { runs = λ x u. fused s t u x gave })
  next_item s [] e (Some x) t gave = absurd (e.runs x t gave)
  next_item s (y ∷ ys) e None t gave = absurd (e.runs.0 t gave)
  next_item s (y ∷ ys) e (Some x) t gave = let h = e.runs.1 x t gave in (ap Some h.0, record { runs = h.1 })

-- numbers from one on
abbrev pub from_steps : RangeFrom ℕ → Option ℕ → RangeFrom ℕ → Type 0
from_steps s r t = MatchOption r ((18446744073709551615 - s.start ≡ 0) × (t ≡ s)) (λ x. (x ≡ s.start) × (t.start ≡ x + 1))

module _ {S A B : Type 0} (steps : S → Option A → S → Type 0) (v : A → B) where
  numbered : (k : ℕ) (ys : List B) (s : Zip (RangeFrom ℕ) S) → (zip_first s).start ≡ k → k + length ys < 2 ^ 64 → AlwaysYields steps v (zip_second s) ys → AlwaysYields (zip_steps from_steps steps) (λ p. (p.0, v p.1)) s (enumerate_from k ys)
  numbered k [] s b l e = λ x t gave. e x.1 _ gave.1
  numbered k (y ∷ ys) s b l e = (
    (λ t gave. ⊎_elim (λ n. absurd (omega (arith, n.1.0))) (λ n. e.0 _ n.1) gave),
    λ x t gave. let h = e.1 x.1 _ gave.1 in ((λ i. ((gave.0.0 ∙ b) i, h.0 i)), numbered (k + 1) ys t (gave.0.1 ∙ ap (λ n. n + 1) (gave.0.0 ∙ b)) (omega arith) h.1),
  )

  -- numbers from k on, zipped with a chain
  pub YieldsList-from_numbered : (k : ℕ) (ys : List B) (s : Zip (RangeFrom ℕ) S) → (zip_first s).start ≡ k → k + length ys < 2 ^ 64 → YieldsList steps v (zip_second s) ys → YieldsList (zip_steps from_steps steps) (λ p. (p.0, v p.1)) s (enumerate_from k ys)
  YieldsList-from_numbered k ys s b l e = record { runs = numbered k ys s b l e.runs }
