use Rattle.std.proofs.Common.{rules, refl, arith}
use Rattle.std.proofs.lemmas.Iterator.{YieldsList-from_map_by, YieldsList-from_range}
use Rattle.std.proofs.lemmas.Iterator.Consumers.{YieldsList-at}
use Rattle.sets.specs.Set.{in_set}
use Rattle.knowledge.proofs.Rows.{alone, alone_in, drained, stands_alone}
use Rattle.knowledge.proofs.start.Goals as goal

pub returns : goal.returns
returns c =
    let ran = c.extend.ensures.ran in
    let d = rw c.in_ok-extend.was at ran.4 in
    let e = drained ran.1 d (YieldsList-at ran.2 (YieldsList-from_map_by {s = c.map.result} _ in_set alone (YieldsList-from_range 0 c.args.n c.args.n c.map.ensures.source (omega arith)) c.map.ensures.closure (λ x r q k. (refl, alone_in r x (λ j. search rules))))) in
    stands_alone c.args.n _ (omega arith) (rw (ran.3.0, c.in_ok-rows.ensures.items) e)
