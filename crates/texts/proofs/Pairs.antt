-- The pairs of a text gathered line by line. Assumes nothing.
use Rattle.std.proofs.Common.{◌≡◌, true, false, if◌then◌else◌, ℕ, ◌+◌, List, [], ◌∷◌, ◌++◌, drop, slice_get, Some, None, Ok, Err, Option, Result, MatchOption, MatchResult, option_map, Bor, sym, refl, ap, ◌∙◌, append_assoc, append-nil}
use Rattle.std.specs.Result.{is_ok}
use Rattle.std.specs.List.{enumerate_from}
use Rattle.std.proofs.lemmas.Iterator.{YieldsList}
use Rattle.std.specs.declared.alloc.AllocError.{AllocError}
use Rattle.texts.specs.Lines.{words_of}
use Rattle.texts.specs.Reading.{sole_number, further_of, on_line, pairs_from, with_huts, listing_of, unread_of, unreadable}
use Rattle.texts.specs.declared.Unread.TheVariants.{Line, Memory}

-- the first line decides whether there is a list
pub listed :
    (lines : List (List ℕ)) (first : Option (Bor (List ℕ))) (huts : Option ℕ) → option_map (λ l. l.now) first ≡ slice_get lines 0 → MatchOption first (huts ≡ None) (λ l. huts ≡ sole_number (words_of l.now)) →
    with_huts huts (pairs_from 2 (drop 1 lines)) ≡ listing_of lines
listed [] None huts e h = rw h refl
listed [] (Some l) huts e h = absurd (cc)
listed (x ∷ lines) None huts e h = absurd (cc)
listed (x ∷ lines) (Some l) huts e h = let same : l.now ≡ x = cc in rw (h, same) refl

pub no_huts : (huts : Option ℕ) (rest : Result (List ℕ) ℕ) (all : Result (ℕ × List ℕ) ℕ) → with_huts huts rest ≡ all → huts ≡ None → Line 1 ≡ unread_of all
no_huts None rest all e f = ap unread_of e
no_huts (Some n) rest all e f = absurd (cc)

-- numbers that were read, and then what further lines give
abbrev pub joined : List ℕ → Result (List ℕ) ℕ → Result (List ℕ) ℕ
joined xs (Ok ys) = Ok (xs ++ ys)
joined xs (Err k) = Err k

-- With the lines from line k on, the pairs so far are those of the whole text. Once memory is wanting, those lines only decide which line is told.
abbrev pub Gathered : Result (ℕ × List ℕ) ℕ → ℕ → ℕ → List (List ℕ) → Result (Unit {0}) AllocError → List ℕ → Type 0
Gathered all huts k left (Ok u) pairs = with_huts (Some huts) (joined pairs (pairs_from k left)) ≡ all
Gathered all huts k left (Err e) pairs = unread_of (pairs_from k left) ≡ unread_of all

joined_none : (r : Result (List ℕ) ℕ) → joined [] r ≡ r
joined_none (Ok ys) = refl
joined_none (Err k) = refl

unread_joined : (huts : ℕ) (xs : List ℕ) (r : Result (List ℕ) ℕ) → unread_of (with_huts (Some huts) (joined xs r)) ≡ unread_of r
unread_joined huts xs (Ok ys) = refl
unread_joined huts xs (Err k) = refl

unread_pair : (k : ℕ) (p : ℕ × ℕ) (rest : Result (List ℕ) ℕ) → unread_of (on_line k (Ok (Some p)) rest) ≡ unread_of rest
unread_pair k p (Ok xs) = refl
unread_pair k p (Err j) = refl

joined_pair : (k : ℕ) (p : ℕ × ℕ) (old : List ℕ) (rest : Result (List ℕ) ℕ) → joined old (on_line k (Ok (Some p)) rest) ≡ joined (old ++ (p.0 ∷ (p.1 ∷ []))) rest
joined_pair k p old (Ok xs) = ap Ok (sym (append_assoc old (p.0 ∷ (p.1 ∷ [])) xs))
joined_pair k p old (Err j) = refl

module _ (all : Result (ℕ × List ℕ) ℕ) (huts k : ℕ) where
  -- which line is told is never lost
  unread : (left : List (List ℕ)) (so_far : Result (Unit {0}) AllocError) (pairs : List ℕ) → Gathered all huts k left so_far pairs → unread_of (pairs_from k left) ≡ unread_of all
  unread left (Ok u) pairs g = sym (unread_joined huts pairs (pairs_from k left)) ∙ ap unread_of g
  unread left (Err e) pairs g = g

  module _ (line : List ℕ) (left : List (List ℕ)) where
    unread_past : (so_far : Result (Unit {0}) AllocError) (p : ℕ × ℕ) (pairs : List ℕ) → Gathered all huts k (line ∷ left) so_far pairs → further_of (words_of line) ≡ Ok (Some p) → unread_of (pairs_from (k + 1) left) ≡ unread_of all
    unfolding pairs_from
    unread_past so_far p pairs g pair = let h = unread (line ∷ left) so_far pairs g in sym (unread_pair k p (pairs_from (k + 1) left)) ∙ (rw pair at h)

    broken : (so_far : Result (Unit {0}) AllocError) (pairs : List ℕ) → Gathered all huts k (line ∷ left) so_far pairs → further_of (words_of line) ≡ Err unreadable → Line k ≡ unread_of all
    unfolding pairs_from
    broken so_far pairs g bad = let h = unread (line ∷ left) so_far pairs g in rw bad at h

    blank : (so_far : Result (Unit {0}) AllocError) (pairs : List ℕ) → Gathered all huts k (line ∷ left) so_far pairs → further_of (words_of line) ≡ Ok None → Gathered all huts (k + 1) left so_far pairs
    unfolding pairs_from
    blank (Ok u) pairs g none = rw none at g
    blank (Err e) pairs g none = rw none at g

    added :
        (so_far next : Result (Unit {0}) AllocError) (p : ℕ × ℕ) (old new : List ℕ) → Gathered all huts k (line ∷ left) so_far old → further_of (words_of line) ≡ Ok (Some p) → true ≡ is_ok so_far →
        new ≡ (if is_ok next then old ++ (p.0 ∷ (p.1 ∷ [])) else old) → Gathered all huts (k + 1) left next new
    unfolding pairs_from
    added (Ok u) (Ok w) p old new g pair can e = rw e (ap (with_huts (Some huts)) (sym (joined_pair k p old (pairs_from (k + 1) left))) ∙ (rw pair at g))
    added (Ok u) (Err w) p old new g pair can e = unread_past (Ok u) p old g pair
    added (Err w) next p old new g pair can e = absurd (cc)

    passed : (so_far : Result (Unit {0}) AllocError) (p : ℕ × ℕ) (pairs : List ℕ) → Gathered all huts k (line ∷ left) so_far pairs → further_of (words_of line) ≡ Ok (Some p) → false ≡ is_ok so_far → Gathered all huts (k + 1) left so_far pairs
    passed (Ok u) p pairs g pair wants = absurd (cc)
    passed (Err e) p pairs g pair wants = unread_past (Err e) p pairs g pair

module _ {S : Type 0} (steps : S → Option (ℕ × Bor (List ℕ)) → S → Type 0) (all : Result (ℕ × List ℕ) ℕ) (huts : ℕ) where
  -- the lines that a numbered chain still gives, and what was gathered before them
  abbrev pub Gathering : S → Result (Unit {0}) AllocError → List ℕ → Type 0
  Gathering s so_far pairs = (k : ℕ) × (left : List (List ℕ)) × YieldsList steps (λ p. (p.0, p.1.now)) s (enumerate_from k left) × Gathered all huts k left so_far pairs

  -- no pair is gathered yet
  pub begins : (s : S) (left : List (List ℕ)) (pairs : List ℕ) → YieldsList steps (λ p. (p.0, p.1.now)) s (enumerate_from 2 left) → with_huts (Some huts) (pairs_from 2 left) ≡ all → pairs ≡ [] → Gathering s (Ok tt) pairs
  begins s left pairs y e none = (2, left, y, rw (none, joined_none (pairs_from 2 left)) e)

  module _ (s t : S) (x : ℕ × Bor (List ℕ)) where
    -- the chain gave the first line that is left
    turn :
        (so_far : Result (Unit {0}) AllocError) (pairs : List ℕ) → Gathering s so_far pairs → steps s (Some x) t →
        (left : List (List ℕ)) × YieldsList steps (λ p. (p.0, p.1.now)) t (enumerate_from (x.0 + 1) left) × Gathered all huts x.0 (x.1.now ∷ left) so_far pairs
    turn so_far pairs (k, [], y, g) gave = absurd (y.runs x t gave)
    turn so_far pairs (k, line ∷ left, y, g) gave =
        let h = y.runs.1 x t gave in
        let number : x.0 ≡ k = λ i. (h.0 i).0 in
        let same : x.1.now ≡ line = λ i. (h.0 i).1 in
        rw (number, same) (left, record { runs = h.1 }, g)

    -- a line that can't be read is the first
    pub reads_broken : (so_far : Result (Unit {0}) AllocError) (pairs : List ℕ) → Gathering s so_far pairs → steps s (Some x) t → further_of (words_of x.1.now) ≡ Err unreadable → Line x.0 ≡ unread_of all
    reads_broken so_far pairs r gave bad = let h = turn so_far pairs r gave in broken all huts x.0 x.1.now h.0 so_far pairs h.2 bad

    -- a blank line adds nothing
    pub reads_blank : (so_far : Result (Unit {0}) AllocError) (pairs : List ℕ) → Gathering s so_far pairs → steps s (Some x) t → further_of (words_of x.1.now) ≡ Ok None → Gathering t so_far pairs
    reads_blank so_far pairs r gave none = let h = turn so_far pairs r gave in (_, h.0, h.1, blank all huts x.0 x.1.now h.0 so_far pairs h.2 none)

    -- the numbers of a pair go to the end, if there is memory for them
    pub reads_pair :
        (so_far next : Result (Unit {0}) AllocError) (p : ℕ × ℕ) (old new : List ℕ) → Gathering s so_far old → steps s (Some x) t → further_of (words_of x.1.now) ≡ Ok (Some p) → true ≡ is_ok so_far →
        new ≡ (if is_ok next then old ++ (p.0 ∷ (p.1 ∷ [])) else old) → Gathering t next new
    reads_pair so_far next p old new r gave pair can e = let h = turn so_far old r gave in (_, h.0, h.1, added all huts x.0 x.1.now h.0 so_far next p old new h.2 pair can e)

    -- and are passed over once memory is wanting
    pub passes_pair : (so_far : Result (Unit {0}) AllocError) (p : ℕ × ℕ) (pairs : List ℕ) → Gathering s so_far pairs → steps s (Some x) t → further_of (words_of x.1.now) ≡ Ok (Some p) → false ≡ is_ok so_far → Gathering t so_far pairs
    passes_pair so_far p pairs r gave pair wants = let h = turn so_far pairs r gave in (_, h.0, h.1, passed all huts x.0 x.1.now h.0 so_far p pairs h.2 pair wants)

  -- no line is left
  pub ends : (s t : S) (so_far : Result (Unit {0}) AllocError) (pairs : List ℕ) → Gathering s so_far pairs → steps s None t → MatchResult so_far (λ _. all ≡ Ok (huts, pairs)) (λ _. Memory ≡ unread_of all)
  unfolding pairs_from
  ends s t (Ok u) pairs (k, [], y, g) gave = sym g ∙ ap (λ xs. Ok (huts, xs)) (append-nil pairs)
  ends s t (Err e) pairs (k, [], y, g) gave = g
  ends s t so_far pairs (k, line ∷ left, y, g) gave = absurd (y.runs.0 t gave)
