use Rattle.std.proofs.Common.{◌≡◌, length, vec_items, arith}
use Rattle.std.proofs.lemmas.List.{length-replicate}
use Rattle.std.proofs.lemmas.Bool.{both_ways}
use Rattle.sets.specs.Set.{in_set}
use Rattle.sets.specs.Set.{row_of}
use Rattle.rows.specs.Rows.{told}
use Rattle.rows.proofs.Told.{none_in}
use Rattle.rows.proofs.table.Rows.apart.Goals as goal

pub invariant_of-result : goal.invariant_of-result
invariant_of-result c =
    let all = c.in_ok-of.ensures.items_if_clones_equal (λ y e. e) in
    let size : length (vec_items c.in_ok-of.of) ≡ c.args.n = rw all (length-replicate c.args.n c.none.result) in
    let none = none_in c.none.result (vec_items c.in_ok-of.of) c.args.n c.none.ensures all in
    record { some = omega arith; few = omega arith; there = λ i k t. absurd (both_ways (in_set (row_of (vec_items c.in_ok-of.of) i) k) (none i k) t) }

pub returns : goal.returns
unfolding told
returns c =
    let all = c.in_ok-of.ensures.items_if_clones_equal (λ y e. e) in (
      rw all (length-replicate c.args.n c.none.result),
      λ i k. let none = none_in c.none.result (vec_items c.in_ok-of.of) c.args.n c.none.ensures all i k in grind arith,
    )
