use Rattle.std.proofs.Common.{◌≡◌, ℕ, Bool, true, List, Some, None, Option, Result, codes, option_map, rules}
use Rattle.std.specs.Fmt.{DisplaysOnOk, ◌++?◌}
use Rattle.std.specs.declared.fmt.Error.{Error}
use Rattle.std.specs.declared.fmt.Formatter.{Formatter}
use Rattle.tool.specs.declared.Program.{Program}
use Rattle.tool.specs.Text.{failure_shown, misuse, told_by}
use Rattle.tool.proofs.ComplaintDisplay.fmt.Goals as goal

-- what is written where the command line is wrong
with_hint :
    {W : Type 0} (took : W → List ℕ → W → Type 0) (f g : Formatter W) (r : Result (Unit {0}) Error) (p : Program) (said : Option (List ℕ)) (w : Bool) → w ≡ true →
    DisplaysOnOk took f r
    (Some p.name.now ++? (Some (codes ": ") ++? (said ++? (Some (codes "\n") ++? (Some p.usage.now ++? (Some (codes "\nTry '") ++? (Some p.name.now ++? Some (codes " --help' for more information."))))))))
    g
    → DisplaysOnOk took f r (option_map (λ s. told_by p s w) said) g
with_hint took f g r p None w e h = tt
with_hint took f g r p (Some s) w e h = rw e h

pub returns-then-is_misuse-clause-writes : goal.returns-then-is_misuse-clause-writes
returns-then-is_misuse-clause-writes g c =
    let self = c.args.self.now in
    let wrong : misuse self.failure ≡ true = search rules in
    with_hint _ _ _ _ self.program (failure_shown self.failure) (misuse self.failure) wrong c.write.ensures.writes
