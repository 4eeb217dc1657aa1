-- The number of each fault, and the line by which it is told. Assumes nothing.
use Rattle.std.specs.Prelude.{ℕ, cond, List, [], ◌++◌, Some, None, codes, decimal, Option, ◌==◌}
use Rattle.faults.specs.declared.Fault.{Fault}
use Rattle.faults.specs.declared.Fault.TheVariants.{Malformed, NoSuchHut, Unsorted, NotJoined, NotAwaited, BadEntry, Conflict, TooEarly, NoLine, TooLong, Closed, Memory}

-- The number that users know each fault by, and the hut that is told with it: of huts that are not all joined, the lowest that isn't joined to
-- hut 0. Want of memory is no fault of the input, and has 0.
abbrev pub tell_of : Fault → ℕ × Option ℕ
tell_of Malformed = (1, None)
tell_of NoSuchHut = (2, None)
tell_of Unsorted = (3, None)
tell_of (NotJoined hut) = (4, Some hut)
tell_of NotAwaited = (5, None)
tell_of BadEntry = (6, None)
tell_of Conflict = (7, None)
tell_of TooEarly = (8, None)
tell_of NoLine = (9, None)
tell_of TooLong = (10, None)
tell_of Closed = (11, None)
tell_of Memory = (0, None)

abbrev pub number_of : Fault → ℕ
number_of f = (tell_of f).0

abbrev pub hut_of : Fault → Option ℕ
hut_of f = (tell_of f).1

-- the fault in words
abbrev pub cause_of : Fault → List ℕ
cause_of Malformed = codes "unknown kind, bad length or wrong last bytes"
cause_of NoSuchHut = codes "no huts, more than 1024, or a hut that isn't there"
cause_of Unsorted = codes "lines that don't rise, or of a hut with itself"
cause_of (NotJoined hut) = codes "not all huts are joined"
cause_of NotAwaited = codes "a word that isn't awaited, or of another hut or day"
cause_of BadEntry = codes "an entry out of order, of a hut not listed, above 63 or over 16 bytes"
cause_of Conflict = codes "an entry that differs from one known of the same number"
cause_of TooEarly = codes "a call of the plan that may not be tried yet"
cause_of NoLine = codes "a call where there is no line"
cause_of TooLong = codes "a plan of more than 4096 calls"
cause_of Closed = codes "an entry of one's own after the first call was tried"
cause_of Memory = codes "out of memory"

abbrev pub hut_shown : Option ℕ → List ℕ
hut_shown None = []
hut_shown (Some hut) = codes ": hut " ++ decimal hut

-- the line by which a fault is told: its number, its cause, and its hut if it has one
abbrev pub shown_of : Fault → List ℕ
shown_of f = cond (number_of f == 0) (cause_of f) (codes "refused " ++ (decimal (number_of f) ++ (codes ": " ++ (cause_of f ++ hut_shown (hut_of f)))))
