-- The plan for n huts that can all call each other. Assumes nothing.
--     hub m      hut 0 calls huts 4, 5, .. in this order, m of them
--     round      0 calls 1, 2 calls 3, 0 calls 2, 1 calls 3
--     plan n     the whole
-- As in every list of calls the latest one stands first.
use Rattle.std.specs.Prelude.{ℕ, zero, suc, ◌+◌, ◌-◌, cond, List, [], ◌∷◌, ◌++◌, nat_lt}
use Rattle.calls.specs.Call.{Call, call}
use Rattle.calls.specs.Number.{numbers}

unfoldable pub hub : ℕ → List Call
hub zero = []
hub (suc m) = call 0 (m + 4) ∷ hub m

abbrev pub round : List Call
round = call 1 3 ∷ (call 0 2 ∷ (call 2 3 ∷ (call 0 1 ∷ [])))

-- from four huts on: hut 0 calls 4 to n - 1, the first four go round, hut 0 calls 4 to n - 1 again
unfoldable pub plan : ℕ → List Call
plan zero = []
plan (suc zero) = []
plan (suc (suc zero)) = call 0 1 ∷ []
plan (suc (suc (suc zero))) = call 0 1 ∷ (call 0 2 ∷ (call 0 1 ∷ []))
plan (suc (suc (suc (suc m)))) = hub m ++ (round ++ hub m)

-- The same as it is written down, two numbers a call, the earliest first.
abbrev pub written : ℕ → List ℕ
written n = cond (nat_lt n 4) (numbers (plan n)) ((numbers (hub (n - 4)) ++ (0 ∷ (1 ∷ (2 ∷ (3 ∷ (0 ∷ (2 ∷ (1 ∷ (3 ∷ []))))))))) ++ numbers (hub (n - 4)))
