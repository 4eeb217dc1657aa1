-- What is printed for a text of lines and a text of calls. Assumes nothing.
use Rattle.std.specs.Prelude.{◌≡◌, ℕ, List, None, Ok, Err, string_bytes, Result, String}
use Rattle.std.specs.declared.alloc.Global.{Global}
use Rattle.texts.specs.Reading.{listing, unread_of}
use Rattle.checks.specs.declared.Report.{Report}
use Rattle.checks.specs.declared.Wrong.{Wrong}
use Rattle.checks.specs.declared.Wrong.TheVariants.{Lines, Calls}
use Rattle.checks.specs.Answer.{wrong_of, Reported, Checks, report_shown}
use Rattle.faults.specs.declared.Fault.{Fault}
use Rattle.tool.specs.declared.Bad.{Bad}
use Rattle.tool.specs.declared.Bad.TheVariants.{Unread, Refused}

-- the right report as it is told, where nothing is wrong; else what is, or want of memory
abbrev pub Prints : ℕ → List ℕ → ℕ → List ℕ → Result (String Global) (Wrong Fault) → Type 0
Prints n xs m ys (Ok s) = (wrong_of n xs m ys ≡ None) × ((r : Report) × Reported n xs ys r × (string_bytes s ≡ report_shown r))
Prints n xs m ys (Err w) = Checks n xs m ys (Err w)

-- both texts can be read, and what is printed for what they list is r
abbrev pub Listed : List ℕ → List ℕ → Result (String Global) (Wrong Fault) → Type 0
Listed lines calls r =
    (n : ℕ) × (xs : List ℕ) × (m : ℕ) × (ys : List ℕ) × (listing lines ≡ Ok (n, xs)) × (listing calls ≡ Ok (m, ys)) × Prints n xs m ys r

-- The report; or what is wrong with the text of the lines or with that of the calls: a line that can't be read, or want of memory where all can be, or what it lists.
abbrev pub Answered : List ℕ → List ℕ → Result (String Global) (Wrong Bad) → Type 0
Answered lines calls (Ok s) = Listed lines calls (Ok s)
Answered lines calls (Err (Lines (Unread u))) = u ≡ unread_of (listing lines)
Answered lines calls (Err (Calls (Unread u))) = u ≡ unread_of (listing calls)
Answered lines calls (Err (Lines (Refused f))) = Listed lines calls (Err (Lines f))
Answered lines calls (Err (Calls (Refused f))) = Listed lines calls (Err (Calls f))
