use Rattle.std.proofs.Common.{◌≡◌, ℕ, ◌*◌, ◌%◌, ◌^◌, arith}
use Rattle.std.proofs.lemmas.Nat.{one_shl}
use Rattle.sets.proofs.Sets.{has_insert, in_insert}
use Rattle.sets.proofs.HutSet.insert.Goals as goal

pub returns-then-hut-lt-HUTS : goal.returns-then-hut-lt-HUTS
returns-then-hut-lt-HUTS c =
    let h : ℕ = c.args.hut in
    let e : (1 * 2 ^ (h % 64)) % 18446744073709551616 ≡ 2 ^ (h % 64) = one_shl (h % 64) 64 (omega arith) in
    rw e (in_insert c.args.self.now _ h c.if-hut-lt-HUTS.true (has_insert c.args.self.now.words h (omega arith)))
