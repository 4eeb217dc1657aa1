-- What the programs say. Assumes nothing.
--     bad_shown b          what is wrong with a text, as it is told
--     failure_shown f      why nothing is printed, as it is told; of what the system says nothing is claimed
--     misuse f             the command line is wrong
--     complaint_shown c    the failure with the program's name before it, and after it, where the command line is wrong, what its forms are
--     help_text p          what a program says of itself
--     version_text p       its name, its version, and what it is proved with
use Rattle.std.specs.Prelude.{ℕ, Bool, true, false, cond, List, [], ◌++◌, Some, None, Option, codes, option_map}
use Rattle.faults.specs.Fault.{shown_of}
use Rattle.texts.specs.Reading as texts
use Rattle.tool.specs.declared.Bad.{Bad}
use Rattle.tool.specs.declared.Bad.TheVariants as bad
use Rattle.tool.specs.declared.Failure.{Failure}
use Rattle.tool.specs.declared.Failure.TheVariants as failure
use Rattle.tool.specs.declared.Complaint.{Complaint}
use Rattle.tool.specs.declared.Program.{Program}

abbrev pub bad_shown : Bad → List ℕ
bad_shown (bad.Unread u) = texts.shown_of u
bad_shown (bad.Refused f) = shown_of f

abbrev pub failure_shown : Failure → Option (List ℕ)
failure_shown (failure.Missing what) = Some (what.now ++ codes " is missing")
failure_shown (failure.Unknown word) = Some (codes "unknown option '" ++ (word.now ++ codes "'"))
failure_shown (failure.Extra word) = Some (codes "one argument too many: '" ++ (word.now ++ codes "'"))
failure_shown (failure.Twice word) = Some (codes "'" ++ (word.now ++ codes "' is given twice"))
failure_shown (failure.Late word) = Some (codes "'--text' stands after '" ++ (word.now ++ codes "'"))
failure_shown (failure.NoNumber word) = Some (codes "'" ++ (word.now ++ codes "' is no number of huts"))
failure_shown (failure.Bad word b) = Some (word.now ++ (codes ": " ++ bad_shown b))
failure_shown (failure.Input path e) = None

abbrev pub misuse : Failure → Bool
misuse (failure.Bad word b) = false
misuse (failure.Input path e) = false
misuse f = true

-- the forms of the command line, and where to read more
abbrev pub hint : Program → List ℕ
hint p = codes "\n" ++ (p.usage.now ++ (codes "\nTry '" ++ (p.name.now ++ codes " --help' for more information.")))

abbrev pub told_by : Program → List ℕ → Bool → List ℕ
told_by p said wrong = p.name.now ++ (codes ": " ++ (said ++ cond wrong (hint p) []))

abbrev pub complaint_shown : Complaint → Option (List ℕ)
complaint_shown c = option_map (λ said. told_by c.program said (misuse c.failure)) (failure_shown c.failure)

abbrev pub help_text : Program → List ℕ
help_text p = p.usage.now ++ (codes "\n       " ++ (p.name.now ++ (codes " --help | --version\n\n" ++ p.about.now)))

abbrev pub version_text : Program → List ℕ
version_text p = p.name.now ++ codes " 0.1.0, proved with rattle-kit-13f logic dac8208d650f15bf\n"
