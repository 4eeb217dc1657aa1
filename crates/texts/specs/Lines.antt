-- Text cut into lines, and a line into words. Assumes nothing.
use Rattle.std.specs.Prelude.{ℕ, Bool, ◌||◌, List, ◌==◌, filter, length, nat_lt}
use Rattle.std.specs.List.{slice_split}

abbrev pub newline : ℕ → Bool
newline b = b == 10

-- a space, a tab or a carriage return
abbrev pub blank : ℕ → Bool
blank b = b == 32 || (b == 9 || b == 13)

abbrev pub has_bytes : List ℕ → Bool
has_bytes part = nat_lt 0 (length part)

-- the lines of a text are what newlines part: one more than there are newlines, some of them empty
abbrev pub lines_of : List ℕ → List (List ℕ)
lines_of text = slice_split newline text

-- the words of a line are what blanks part: the longest runs of bytes that are not blank
abbrev pub words_of : List ℕ → List (List ℕ)
words_of line = filter has_bytes (slice_split blank line)
