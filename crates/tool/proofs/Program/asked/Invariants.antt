use Rattle.std.proofs.Common.{true, false, map, drop, None, Result, option_map, string_bytes}
use Rattle.tool.specs.Asked.{Asks}
use Rattle.tool.specs.declared.Failure.{Failure}
use Rattle.tool.specs.declared.Request.{Request}
use Rattle.tool.proofs.Program.asked.Given as goal

-- what the words that are left ask for, all ask for
abbrev pub invariant-loop-word : goal.invariant-loop-word
invariant-loop-word l =
    (r : Result Request Failure) →
    Asks l.self.takes l.options l.text (option_map (λ x. x.now) l.first) (option_map (λ x. x.now) l.second) (map string_bytes (drop l.word-index l.words)) r →
    Asks l.self.takes true false None None (map string_bytes l.words) r
