-- The first number of a range at which a closure gives something. Assumes nothing.
use Rattle.std.proofs.Common.{◌≡◌, ℕ, ◌+◌, ◌-◌, ◌<◌, ◌≤◌, Option, None, Some, MatchOption, arith, subst, ap, ◌∙◌}
use Rattle.std.specs.Fn.{Called}
use Rattle.std.specs.Option.{option_map, IfSome, IsSomeAnd}
use Rattle.std.specs.Bool.{IsTrue}
use Rattle.std.specs.Iterator.Runs.{SomeRun, CallKeepsClosure, AllItemsGive, IsFirstToGive}
use Rattle.std.specs.declared.ops.Range.{Range}
use Rattle.std.proofs.iter.Yields.{nat_range_steps}
use Rattle.std.proofs.iter.runs.Sources.{range_runs}
use denote.Param.Members.{Mut}

-- what holds of an item holds of the number that it is
at_item : (o : Option ℕ) (n : ℕ) (P : ℕ → Type 0) → option_map (λ y. y) o ≡ Some n → IfSome o P → P n
at_item None n P e h = absurd cc
at_item (Some x) n P e h = let q : x ≡ n = cc in subst P q h

at_some_item : (o : Option ℕ) (n : ℕ) (P : ℕ → Type 0) → option_map (λ y. y) o ≡ Some n → IsSomeAnd o P → P n
at_some_item None n P e h = absurd cc
at_some_item (Some x) n P e h = let q : x ≡ n = cc in subst P q h

pub found_in_range :
    {F B : Type 0} {g : Mut F (ℕ × Unit {0}) (Option B)} (s : Range ℕ) (f : F) (r : Option B) (Yes : ℕ → B → Type 0) (No : ℕ → Type 0) →
    SomeRun nat_range_steps s (λ p. MatchOption r (IsTrue p.whole × AllItemsGive p g f None) (λ y. (i : ℕ) × (i < p.len) × (p.len ≡ i + 1) × IsFirstToGive p g f (Some y) None i)) →
    CallKeepsClosure g f → ((x : ℕ) (y : B) → Called g f (x, tt) (Some y) f → Yes x y) → ((x : ℕ) → Called g f (x, tt) None f → No x) →
    MatchOption r ((k : ℕ) → s.start ≤ k → k < s.end → No k) (λ y. (i : ℕ) × (s.start ≤ i) × (i < s.end) × Yes i y × ((k : ℕ) → s.start ≤ k → k < i → No k))
found_in_range s f None Yes No (p, from, ends) keeps hit miss =
    λ k since l.
    let up = range_runs p p.seen in
    let start : p.from.start ≡ s.start = ap (λ (t : Range ℕ). t.start) from in
    let end : p.from.end ≡ s.end = ap (λ (t : Range ℕ). t.end) from in
    let e : p.from.start + (k - s.start) ≡ k = omega arith in
    miss k (at_item (p.at (k - s.start)) k _ (up.3 (k - s.start) (omega (arith, up.1 ends.0)) ∙ ap Some e) (ends.1 keeps (k - s.start)))
found_in_range s f (Some y) Yes No (p, from, ends) keeps hit miss =
    let up = range_runs p p.seen in
    let start : p.from.start ≡ s.start = ap (λ (t : Range ℕ). t.start) from in
    let end : p.from.end ≡ s.end = ap (λ (t : Range ℕ). t.end) from in
    let i : ℕ = ends.0 in
    let l : i < p.len = ends.1 in
    let first = ends.3 keeps in
    let e : p.from.start + i ≡ s.start + i = omega arith in (
      s.start + i,
      omega arith,
      omega (arith, up.0),
      hit (s.start + i) y (at_some_item (p.at i) (s.start + i) _ (up.3 i l ∙ ap Some e) first.0),
      λ k since before.
          let e : p.from.start + (k - s.start) ≡ k = omega arith in
          miss k (at_some_item (p.at (k - s.start)) k _ (up.3 (k - s.start) (omega arith) ∙ ap Some e) (first.1 (k - s.start) (omega arith))),
    )
