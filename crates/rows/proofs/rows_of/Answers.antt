use Rattle.std.proofs.Common.{◌≡◌, false, vec_items, sym, arith}
use Rattle.std.proofs.lemmas.Bool.Decides.{nat_tests}
use Rattle.lines.proofs.Lines.{line-between}
use Rattle.rows.specs.Rows.{huts, told}
use Rattle.rows.proofs.Lines.{early_none}
use Rattle.rows.proofs.Told.{told_line}
use Rattle.rows.proofs.rows_of.Goals as goal

pub add_lines-requires : goal.add_lines-requires
add_lines-requires c =
    let right = early_none c.args.n c.args.lines.now (sym c.in_ok-fault_in.ensures) in
    let size = c.in_ok-rows.ensures.0 in
    let n = c.from.ensures in
    record { there = λ i k t. let b = line-between c.args.n 0 0 c.args.lines.now right.2 i k t in let l = b.0 in omega arith }

pub returns : goal.returns
unfolding told
returns c =
    let right = early_none c.args.n c.args.lines.now (sym c.in_ok-fault_in.ensures) in
    let made = c.in_ok-rows.ensures in
    let n = c.from.ensures in
    let size : huts c.add_lines.new.rows ≡ c.args.n = omega (arith, c.add_lines.ensures.same, made.0) in (
      sym c.in_ok-fault_in.ensures,
      size,
      told_line (vec_items c.add_lines.new.rows.of) c.args.n c.args.lines.now size right.2
          (λ i k l.
          let none : told c.in_ok-rows.rows i k ≡ false = made.1 i k in
          let added = c.add_lines.ensures.added i k in
          grind (arith, nat_tests)),
    )
