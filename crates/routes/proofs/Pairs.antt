-- What is written down is the prescribed plan. Assumes nothing.
use Rattle.std.proofs.Common.{◌≡◌, ℕ, List, [], ◌∷◌, ◌++◌, map, reverse, drop, Some, None, sym, refl, ap, ◌∙◌, append_assoc, append-nil}
use Rattle.std.specs.List.{flat_map}
use Rattle.std.proofs.lemmas.Grind.{flat_map-append}
use Rattle.std.proofs.lemmas.List.{reverse-append}
use Rattle.calls.specs.Call.{Call, call}
use Rattle.calls.specs.Number.{numbers}
use Rattle.calls.proofs.Numbers.{numbers-append}
use Rattle.plans.specs.declared.Square.{Square}
use Rattle.lines.specs.Plan.{gather, spread, round, plan_with}
use Rattle.routes.specs.declared.Tied.{Tied}
use Rattle.routes.specs.Pairs.{call_in, inward, outward, round_written, straight_written}

-- a hut tied to the partner that p gives it
abbrev pub tied : (ℕ → ℕ) → ℕ → Tied
tied p r = record { hut = r; partner = p r }

in_gather : (p : ℕ → ℕ) (rs : List ℕ) → inward (map (tied p) rs) ≡ numbers (gather p rs)
unfolding numbers gather
in_gather p [] = refl
in_gather p (r ∷ rs) =
    ap (λ ts. flat_map call_in ts) (reverse-append (tied p r ∷ []) (map (tied p) rs))
    ∙ flat_map-append call_in (reverse (map (tied p) rs)) (tied p r ∷ [])
    ∙ ap (λ xs. xs ++ (r ∷ (p r ∷ []))) (in_gather p rs)

out_spread : (p : ℕ → ℕ) (rs : List ℕ) (cs : List Call) → numbers (spread p rs cs) ≡ numbers cs ++ outward (map (tied p) rs)
unfolding numbers spread
out_spread p [] cs = sym (append-nil (numbers cs))
out_spread p (r ∷ rs) cs = out_spread p rs (call (p r) r ∷ cs) ∙ append_assoc (numbers cs) (p r ∷ (r ∷ [])) (outward (map (tied p) rs))

pub round_written_lem : (p : ℕ → ℕ) (rs : List ℕ) (s : Square) → round_written s (map (tied p) rs) ≡ numbers (plan_with p rs (Some s))
unfolding numbers
round_written_lem p rs s =
    let inside : numbers (round s ++ gather p rs) ≡ numbers (gather p rs) ++ numbers (round s) = numbers-append (round s) (gather p rs) in
    rw (out_spread p rs (round s ++ gather p rs), in_gather p rs, inside)

map_rest : (p : ℕ → ℕ) (rs : List ℕ) → drop 1 (map (tied p) rs) ≡ map (tied p) (drop 1 rs)
map_rest p [] = refl
map_rest p (r ∷ rs) = refl

pub straight_written_lem : (p : ℕ → ℕ) (rs : List ℕ) → straight_written (map (tied p) rs) ≡ numbers (plan_with p rs None)
straight_written_lem p rs = rw (map_rest p rs, in_gather p rs) (sym (out_spread p (drop 1 rs) (gather p rs)))
