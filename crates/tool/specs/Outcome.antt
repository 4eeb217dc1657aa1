-- How the programs end. Assumes nothing.
--     IsLeft done          the reader has left: nobody reads what is written
--     IsUnread path f      the failure is that the file of this path can't be read
--     IsWant word f        the failure is want of memory for what this option prints
use Rattle.std.specs.Prelude.{◌≡◌, ℕ, List, Ok, Err, Result}
use Rattle.std.specs.IoError.{error_kind}
use Rattle.std.specs.declared.io.Error.{Error}
use Rattle.std.specs.declared.io.ErrorKind.TheVariants.{BrokenPipe}
use Rattle.faults.specs.declared.Fault.TheVariants.{Memory}
use Rattle.tool.specs.declared.Bad.TheVariants as bad
use Rattle.tool.specs.declared.Failure.{Failure}
use Rattle.tool.specs.declared.Failure.TheVariants as failure

abbrev pub IsLeft : Result (Unit {0}) Error → Type 0
IsLeft (Ok done) = ⊥
IsLeft (Err e) = error_kind e ≡ BrokenPipe

abbrev pub IsUnread : List ℕ → Failure → Type 0
IsUnread path (failure.Input p e) = p.now ≡ path
IsUnread path f = ⊥

abbrev pub IsWant : List ℕ → Failure → Type 0
IsWant word (failure.Bad w b) = (w.now ≡ word) × (b ≡ bad.Refused Memory)
IsWant word f = ⊥
