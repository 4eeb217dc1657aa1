use Rattle.std.proofs.Common.{rules, ◌≡◌, Ok, Err, Result, MatchResult, IfOk}
use Rattle.std.specs.Result.{IsErrAnd}
use Rattle.tool.proofs.Program.version.Goals as goal

-- what holds of a value, and of what an error is made into
mapped :
    {X E F : Type 0} (P : X → Type 0) (Q : F → Type 0) (L : E → F → Type 0) (r : Result X E) (q : Result X F) →
    IfOk r P → ((e : E) (f : F) → L e f → Q f) → MatchResult r (λ x. q ≡ Ok x) (λ e. IsErrAnd q (L e)) → MatchResult q P Q
mapped P Q L (Ok x) q p k h = rw h p
mapped P Q L (Err e) (Ok x) p k h = absurd h
mapped P Q L (Err e) (Err f) p k h = k e f h

pub returns : goal.returns
returns c = record { text = mapped _ _ _ c.format-text.result c.map_err.result (search rules) (λ e f l. search rules) c.map_err.ensures.cases }
