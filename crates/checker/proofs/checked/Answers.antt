use Rattle.std.proofs.Common.{rules, ◌≡◌, ℕ, List, Ok, Err, Result, MatchResult, String}
use Rattle.std.specs.Result.{IsErrAnd}
use Rattle.std.specs.declared.alloc.Global.{Global}
use Rattle.faults.specs.declared.Fault.{Fault}
use Rattle.texts.specs.Reading.{listing}
use Rattle.checks.specs.Answer.{IsMapped}
use Rattle.checks.specs.declared.Wrong.{Wrong}
use Rattle.checks.specs.declared.Wrong.TheVariants.{Lines, Calls}
use Rattle.tool.specs.declared.Bad.{Bad}
use Rattle.tool.specs.declared.Bad.TheVariants.{Refused}
use Rattle.checker.specs.Printed.{Listed, Answered}
use Rattle.checker.proofs.checked.Goals as goal

-- the text that is blamed is the one that is wrong
blamed : (lines calls : List ℕ) (w : Wrong Fault) (v : Wrong Bad) → Listed lines calls (Err w) → IsMapped (λ f b. b ≡ Refused f) w v → Answered lines calls (Err v)
blamed lines calls (Lines f) (Lines b) h e = rw e h
blamed lines calls (Calls f) (Calls b) h e = rw e h
blamed lines calls (Lines f) (Calls b) h e = absurd e
blamed lines calls (Calls f) (Lines b) h e = absurd e

answered :
    (lines calls : List ℕ) (P : Wrong Fault → Wrong Bad → Type 0) (q : Result (String Global) (Wrong Fault)) (r : Result (String Global) (Wrong Bad)) → Listed lines calls q →
    ((w : Wrong Fault) (v : Wrong Bad) → P w v → IsMapped (λ f b. b ≡ Refused f) w v) → MatchResult q (λ s. r ≡ Ok s) (λ w. IsErrAnd r (P w)) → Answered lines calls r
answered lines calls P (Ok s) r h k e = rw e h
answered lines calls P (Err w) (Ok s) h k e = absurd e
answered lines calls P (Err w) (Err v) h k e = blamed lines calls w v h (k w v e)

pub returns : goal.returns
returns c =
    let first : listing c.args.lines.now ≡ Ok (c.in_ok-lines.lines.huts, c.in_ok-lines.lines.pairs.items) = search rules in
    let second : listing c.args.calls.now ≡ Ok (c.in_ok-calls.calls.huts, c.in_ok-calls.calls.pairs.items) = search rules in
    record { answered = answered c.args.lines.now c.args.calls.now _ c.text-text.result _ (_, _, _, _, first, second, c.text-text.ensures.prints) (λ w v l. search rules) c.map_err-3.ensures.cases }
