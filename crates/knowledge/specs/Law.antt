-- What an outcome says is so of one outcome only. Assumes nothing.
use Rattle.std.specs.Prelude.{◌≡◌, ℕ, List}
use Rattle.knowledge.specs.declared.Outcome.{Outcome}
use Rattle.knowledge.specs.Outcome.{Says}

-- A list of calls among n huts comes to one outcome, and to no other.
abbrev pub OneOutcome : Type 0
OneOutcome = (n : ℕ) (xs : List ℕ) (o p : Outcome) → Says n xs o → Says n xs p → o ≡ p
