-- The calls of a row as numbers. Assumes nothing.
--     inward ts     from the last of the row to the first, each hut calls its partner
--     outward ts    from the first to the last, each partner calls its hut
--     round_written s ts, straight_written ts    the whole plan, with the square s and without one
use Rattle.std.specs.Prelude.{ℕ, List, [], ◌∷◌, ◌++◌, reverse, drop}
use Rattle.std.specs.List.{flat_map}
use Rattle.plans.specs.declared.Square.{Square}
use Rattle.routes.specs.declared.Tied.{Tied}

-- the hut calls its partner, and the partner its hut
abbrev pub call_in : Tied → List ℕ
call_in t = t.hut ∷ (t.partner ∷ [])

abbrev pub call_out : Tied → List ℕ
call_out t = t.partner ∷ (t.hut ∷ [])

abbrev pub inward : List Tied → List ℕ
inward ts = flat_map call_in (reverse ts)

abbrev pub outward : List Tied → List ℕ
outward ts = flat_map call_out ts

-- with the square s: inward, round the four, outward
abbrev pub round_written : Square → List Tied → List ℕ
round_written s ts = (inward ts ++ (s.a ∷ (s.b ∷ (s.c ∷ (s.d ∷ (s.a ∷ (s.d ∷ (s.b ∷ (s.c ∷ []))))))))) ++ outward ts

-- without one: inward, and outward but for the first of the row
abbrev pub straight_written : List Tied → List ℕ
straight_written ts = inward ts ++ outward (drop 1 ts)
