-- What the lines of a list stand for, and what a text is read as. Assumes nothing.
use Rattle.std.specs.Prelude.{◌≡◌, ℕ, ◌+◌, List, [], ◌∷◌, ◌++◌, Some, None, Ok, Err, vec_items, codes, decimal, Option, Result}
use Rattle.texts.specs.Lines.{lines_of, words_of}
use Rattle.texts.specs.Number.{number_in}
use Rattle.texts.specs.declared.Unreadable.{Unreadable}
use Rattle.texts.specs.declared.Listing.{Listing}
use Rattle.texts.specs.declared.Unread.{Unread}
use Rattle.texts.specs.declared.Unread.TheVariants.{Line, Memory}

-- the first line: one word, a number
abbrev pub sole_number : List (List ℕ) → Option ℕ
sole_number [] = None
sole_number (w ∷ []) = number_in w
sole_number (w ∷ v ∷ ws) = None

-- the only value of its type
abbrev pub unreadable : Unreadable
unreadable = record {}

abbrev pub pair_of : Option ℕ → Option ℕ → Result (Option (ℕ × ℕ)) Unreadable
pair_of None e = Err unreadable
pair_of (Some a) None = Err unreadable
pair_of (Some a) (Some e) = Ok (Some (a, e))

-- a further line: two words, both numbers, or no word
abbrev pub further_of : List (List ℕ) → Result (Option (ℕ × ℕ)) Unreadable
further_of [] = Ok None
further_of (a ∷ []) = Err unreadable
further_of (a ∷ e ∷ []) = pair_of (number_in a) (number_in e)
further_of (a ∷ e ∷ w ∷ ws) = Err unreadable

-- what line k gives, with what the lines after it give
abbrev pub on_line : ℕ → Result (Option (ℕ × ℕ)) Unreadable → Result (List ℕ) ℕ → Result (List ℕ) ℕ
on_line k (Ok None) rest = rest
on_line k (Ok (Some p)) (Ok xs) = Ok (p.0 ∷ (p.1 ∷ xs))
on_line k (Ok (Some p)) (Err j) = Err j
on_line k (Err u) rest = Err k

-- the numbers of the pairs of further lines, of which the first is line k; or the first line that can't be read
unfoldable pub pairs_from : ℕ → List (List ℕ) → Result (List ℕ) ℕ
pairs_from k [] = Ok []
pairs_from k (l ∷ ls) = on_line k (further_of (words_of l)) (pairs_from (k + 1) ls)

-- a first line without the number of huts can't be read
abbrev pub with_huts : Option ℕ → Result (List ℕ) ℕ → Result (ℕ × List ℕ) ℕ
with_huts None rest = Err 1
with_huts (Some n) (Ok xs) = Ok (n, xs)
with_huts (Some n) (Err k) = Err k

abbrev pub listing_of : List (List ℕ) → Result (ℕ × List ℕ) ℕ
listing_of [] = Err 1
listing_of (l ∷ ls) = with_huts (sole_number (words_of l)) (pairs_from 2 ls)

-- the number of huts and the numbers of the pairs that a text gives; or the first of its lines that can't be read, counted from 1
abbrev pub listing : List ℕ → Result (ℕ × List ℕ) ℕ
listing text = listing_of (lines_of text)

-- the first line that can't be read, and want of memory where all can be
abbrev pub unread_of : {X : Type 0} → Result X ℕ → Unread
unread_of (Ok x) = Memory
unread_of (Err k) = Line k

-- What is read is what the text gives. Else the first line that can't be read is told, and want of memory only where there is none.
abbrev pub Reads : List ℕ → Result Listing Unread → Type 0
Reads text (Ok p) = listing text ≡ Ok (p.huts, vec_items p.pairs)
Reads text (Err u) = u ≡ unread_of (listing text)

-- why a text is not read, in words: the line that can't be, or want of memory
abbrev pub shown_of : Unread → List ℕ
shown_of (Line k) = codes "line " ++ (decimal k ++ codes " can't be read")
shown_of Memory = codes "out of memory"
