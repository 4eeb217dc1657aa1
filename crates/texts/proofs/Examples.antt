-- Texts and what they are read as, as examples of the definitions. Assumes nothing.
use Rattle.std.proofs.Common.{◌≡◌, [], ◌∷◌, Ok, Err, codes, refl}
use Rattle.texts.specs.Reading.{pairs_from, listing}

-- blanks and blank lines are skipped
two_pairs : listing (codes "4\n0 1\n\n \t02  3\r\n") ≡ Ok (4, 0 ∷ (1 ∷ (2 ∷ (3 ∷ []))))
unfolding pairs_from
two_pairs = refl

-- a number above 65,535 counts as that
large_numbers : listing (codes " 65535 \n65536 123456789") ≡ Ok (65535, 65535 ∷ (65535 ∷ []))
unfolding pairs_from
large_numbers = refl

empty : listing [] ≡ Err 1
unfolding pairs_from
empty = refl

two_words_first : listing (codes "4 4\n0 1\n") ≡ Err 1
unfolding pairs_from
two_words_first = refl

one_word : listing (codes "4\n0 1\n2\nx y\n") ≡ Err 3
unfolding pairs_from
one_word = refl

three_words : listing (codes "4\n\n0 1 2") ≡ Err 3
unfolding pairs_from
three_words = refl

no_number : listing (codes "4\n0 -1\n") ≡ Err 2
unfolding pairs_from
no_number = refl
