-- What is printed for a number of huts, and what is said to a command line. Assumes nothing.
use Rattle.std.specs.Prelude.{◌≡◌, ℕ, List, length, Some, None, Option, Ok, Err, codes, string_bytes, Result, String}
use Rattle.std.specs.Borrow.{Bor}
use Rattle.std.specs.Option.{unwrap_or}
use Rattle.std.specs.Result.{IsErrAnd}
use Rattle.std.specs.declared.alloc.Global.{Global}
use Rattle.texts.specs.Number.{number_in}
use Rattle.tool.specs.declared.Bad.TheVariants.{Refused}
use Rattle.tool.specs.declared.Failure.{Failure}
use Rattle.tool.specs.declared.Failure.TheVariants.{Bad, NoNumber}
use Rattle.tool.specs.declared.Takes.TheVariants.{Number}
use Rattle.tool.specs.declared.Program.{Program}
use Rattle.tool.specs.Reply as tool
use Rattle.tool.specs.Text.{failure_shown}
use Rattle.faults.specs.declared.Fault.{Fault}
use Rattle.faults.specs.declared.Fault.TheVariants.{Memory}
use Rattle.calls.specs.Number.{numbers}
use Rattle.plans.specs.Complete.{plan}
use Rattle.plans.specs.Answer.{middle, refusal}
use Rattle.plans.specs.Text.{text_shown}

-- the prescribed calls, a line each, the square, and the number of calls
abbrev pub plan_text : ℕ → List ℕ
plan_text n = text_shown (numbers (plan n)) (middle n) (length (plan n))

-- that text for a number that is not refused; else its fault, or want of memory where it has none
abbrev pub Prints : ℕ → Result (String Global) Fault → Type 0
Prints n (Ok s) = (refusal n ≡ None) × (string_bytes s ≡ plan_text n)
Prints n (Err f) = f ≡ unwrap_or (refusal n) Memory

-- The word writes a number, and the plan for it is printed; or it writes none; or its number is refused.
abbrev pub Answered : List ℕ → Result (String Global) Failure → Type 0
Answered word (Ok s) = (n : ℕ) × (number_in word ≡ Some n) × (refusal n ≡ None) × (string_bytes s ≡ plan_text n)
Answered word (Err (NoNumber w)) = (number_in word ≡ None) × (w.now ≡ word)
Answered word (Err (Bad w (Refused f))) = (n : ℕ) × (number_in word ≡ Some n) × (f ≡ unwrap_or (refusal n) Memory) × (w.now ≡ word)
Answered word (Err f) = ⊥

-- that of the word that came; or that none came
abbrev pub AnsweredFirst : Option (Bor (List ℕ)) → Result (String Global) Failure → Type 0
AnsweredFirst (Some word) r = Answered word.now r
AnsweredFirst None r = IsErrAnd r (λ f. failure_shown f ≡ Some (codes "the number of huts is missing"))

-- what is wrong with a word is told of the same word, but of '--help' where it was '--version'; any other failure is told as it is
abbrev pub IsRetold : Failure → Failure → Type 0
IsRetold (Bad w b) g = (v : Bor (List ℕ)) × (g ≡ Bad v b) × (w.now ≡ codes "--version" → v.now ≡ codes "--help") × ((w.now ≡ codes "--version" → ⊥) → v ≡ w)
IsRetold f g = g ≡ f

-- the text that was replied, or the failure as it is told again
abbrev pub Told : Result (String Global) Failure → Result (String Global) Failure → Type 0
Told (Ok s) r = r ≡ Ok s
Told (Err f) r = IsErrAnd r (IsRetold f)

-- A program of the name plan, which takes a number of huts alone and says so in its usage, replies so to the words of its command line; and what it says to those that are no options is right.
-- Where it has no memory for its version, it names '--help', as where it has none for its help.
abbrev pub Replies : List (List ℕ) → Result (String Global) Failure → Type 0
Replies words r =
    (p : Program) × (replied : Result (String Global) Failure) × (p.name.now ≡ codes "plan") × (p.usage.now ≡ codes "usage: plan HUTS") × (p.takes ≡ Number) ×
    tool.Replies p (λ w said. AnsweredFirst w.first said) words replied × Told replied r
