use Rattle.std.proofs.Common.{◌≡◌, set, vec_items, arith}
use Rattle.std.proofs.lemmas.List.{get_or_read, length-set}
use Rattle.std.proofs.lemmas.Bool.Decides.{nat_tests}
use Rattle.sets.specs.Set.{row_of}
use Rattle.rows.specs.Rows.{told}
use Rattle.rows.proofs.Told.{empty, row_line}
use Rattle.rows.proofs.table.Rows.join.Goals as goal

pub returns-clause-joined : goal.returns-clause-joined
unfolding told
returns-clause-joined c =
    λ i k.
    let before = vec_items c.args.self.now.of in
    let a : c.index_mut.result.now ≡ row_of before c.args.a = get_or_read _ _ _ c.requires.one c.index_mut.ensures.value empty in
    let e : c.index_mut-2.result.now ≡ row_of (set before c.args.a c.insert.new.self) c.args.e = get_or_read (set before c.args.a c.insert.new.self) c.args.e _ (rw length-set c.requires.other) c.index_mut-2.ensures.value empty in
    let row = row_line before c.args.a c.args.e c.requires.one c.requires.other c.args.self.now.few c.insert.new.self c.insert-2.new.self (rw a at c.insert.ensures) (rw e at c.insert-2.ensures) i k in
    rw (length-set, length-set, row) (grind (arith, nat_tests))
