-- What a program replies to its command line. Assumes nothing.
--     SaidTo p says asked r    r is what the program p says where this is asked for
--     Replies p says ws r      r is what it says to the words ws
--     IsAnswered gives         a text is answered to some words
-- says w r states that r is said to the words w, which are no options, and gives ws r that r is answered to the words ws.
use Rattle.std.specs.Prelude.{◌≡◌, ℕ, true, false, List, None, Ok, Err, Result, String, MatchResult, codes, string_bytes}
use Rattle.std.specs.declared.alloc.Global.{Global}
use Rattle.tool.specs.declared.Failure.{Failure}
use Rattle.tool.specs.declared.Program.{Program}
use Rattle.tool.specs.declared.Request.{Request}
use Rattle.tool.specs.declared.Request.TheVariants as request
use Rattle.tool.specs.declared.Words.{Words}
use Rattle.tool.specs.Asked.{Asks}
use Rattle.tool.specs.Outcome.{IsWant}
use Rattle.tool.specs.Text.{help_text, version_text}

-- what the program says of itself fails only for want of memory
abbrev pub SaidTo : Program → (Words → Result (String Global) Failure → Type 0) → Result Request Failure → Result (String Global) Failure → Type 0
SaidTo p says (Ok request.Help) r = MatchResult r (λ s. string_bytes s ≡ help_text p) (IsWant (codes "--help"))
SaidTo p says (Ok request.Version) r = MatchResult r (λ s. string_bytes s ≡ version_text p) (IsWant (codes "--version"))
SaidTo p says (Ok (request.Words words)) r = says words r
SaidTo p says (Err f) r = r ≡ Err f

pub record Replies (p : Program) (says : Words → Result (String Global) Failure → Type 0) (words : List (List ℕ)) (r : Result (String Global) Failure) : Type 0 where
  pub asked : Result Request Failure
  pub asks : Asks p.takes true false None None words asked
  pub said : SaidTo p says asked r

abbrev pub IsAnswered : (List (String Global) → Result (String Global) Failure → Type 0) → Type 0
IsAnswered gives = (words : List (String Global)) × (text : String Global) × gives words (Ok text)
