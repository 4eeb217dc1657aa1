-- None with fewer: the lower bound for every number of huts. Assumes nothing.
-- By induction on the number of huts. If somebody hears its own news, a hut fewer does with two calls fewer (HearingCosts). If nobody does, the
-- calls are counted (Unheard).
use Rattle.std.proofs.Common.{ℕ, zero, suc, ◌+◌, ◌*◌, ◌≤◌, not, T, List, [], ◌∷◌, length, inl, inr, arith}
use Rattle.std.proofs.lemmas.Bool.{not-true}
use Rattle.std.proofs.lemmas.Bool.Decides.{nat_tests}
use Rattle.calls.specs.Call.{Call, knows, with_either, among, AllKnow}
use Rattle.calls.proofs.Known.{knows-apart}
use Rattle.fewest.specs.Fewest.{NoneFewer, AsManyAsHuts}
use Rattle.fewest.specs.Own.{hears}
use Rattle.fewest.proofs.Counts.{all_or_one}
use Rattle.fewest.proofs.Moments.{quiet_from}
use Rattle.fewest.proofs.Learned.{all_to_one}
use Rattle.fewest.proofs.Heard.{hearing_costs}
use Rattle.fewest.proofs.Unheard.{unheard}

at_least : (n : ℕ) (cs : List Call) → T (among n cs) → AllKnow n cs → 2 * n ≤ length cs + 4
at_least zero cs apart all = omega arith
at_least (suc n) cs apart all =
    elim (all_or_one (λ x. not (hears cs x)) (suc n)) [
      | inl nobody ↦ unheard (suc n) cs (quiet_from (suc n) cs apart all (λ x l. not-true (hears cs x) (nobody x l)))
      | inr somebody ↦
          let heard = somebody.2 in
          let t = hearing_costs n cs apart all somebody.0 somebody.1 (grind arith) in
          let rest = at_least n t.calls t.apart t.all_know in
          let fewer = t.fewer in
          omega arith
    ]

pub none_fewer : NoneFewer
none_fewer n four cs apart all = let bound = at_least n cs apart all in omega arith

-- a hut that is not in the last call knew everything before it
pub as_many_as_huts : AsManyAsHuts
unfolding knows
as_many_as_huts n three [] all = let t = all 0 1 (omega arith) (omega arith) in absurd t
as_many_as_huts n three (c ∷ cs) all =
    elim (all_or_one (λ w. with_either w c) 3) [
      | inl three-in ↦ let zeroth = three-in 0 (omega arith) in let first = three-in 1 (omega arith) in let second = three-in 2 (omega arith) in absurd (grind (arith, nat_tests))
      | inr out ↦
          let before = all_to_one n cs out.0 (omega arith) (λ k l. rw (knows-apart cs c out.0 k out.2) at (all out.0 k (omega arith) l)) in
          omega arith
    ]
