-- Calls as numbers: written and read back. Assumes nothing.
use Rattle.std.proofs.Common.{◌≡◌, ℕ, ◌+◌, ◌-◌, ◌*◌, ◌%◌, ◌<◌, List, [], ◌∷◌, ◌++◌, length, get_or, take, drop, sym, refl, ap, ◌∙◌, append_assoc, append-nil, add-zero, arith, length-append}
use Rattle.std.proofs.lemmas.List.{get_or-drop, length-take, length-drop, take_more}
use Rattle.calls.specs.Call.{Call, call}
use Rattle.calls.specs.Number.{numbers, onto, calls, Written}

-- the calls of cs, written down before others, are read first
pub onto-numbers : (ds cs : List Call) (xs : List ℕ) → onto ds (numbers cs ++ xs) ≡ onto (cs ++ ds) xs
unfolding numbers onto
onto-numbers ds [] xs = refl
onto-numbers ds (c ∷ cs) xs = rw append_assoc (onto-numbers ds cs (c.a ∷ (c.e ∷ xs)))

-- what was called earlier is written down earlier
pub numbers-append : (ls cs : List Call) → numbers (ls ++ cs) ≡ numbers cs ++ numbers ls
unfolding numbers
numbers-append [] cs = sym (append-nil (numbers cs))
numbers-append (c ∷ ls) cs = rw (numbers-append ls cs) (append_assoc (numbers cs) (numbers ls) (c.a ∷ (c.e ∷ [])))

-- two numbers for each call
pub length-numbers : (cs : List Call) → length (numbers cs) ≡ 2 * length cs
unfolding numbers
length-numbers [] = refl
length-numbers (c ∷ cs) = let h = length-numbers cs in simp length-append (omega arith)

pub calls-numbers : (cs : List Call) → calls (numbers cs) ≡ cs
unfolding onto
calls-numbers cs = sym (ap (λ xs. onto [] xs) (append-nil (numbers cs))) ∙ (onto-numbers [] cs [] ∙ append-nil cs)

pub numbers-onto : (cs : List Call) (xs : List ℕ) → length xs % 2 ≡ 0 → numbers (onto cs xs) ≡ numbers cs ++ xs
unfolding numbers onto
numbers-onto cs [] h = sym (append-nil (numbers cs))
numbers-onto cs (a ∷ []) h = absurd (omega arith)
numbers-onto cs (a ∷ e ∷ xs) h = numbers-onto (call a e ∷ cs) xs (omega arith) ∙ append_assoc (numbers cs) (a ∷ (e ∷ [])) xs

-- one call more at the end of the numbers is the latest call
pub onto_push : (cs : List Call) (xs : List ℕ) (a e : ℕ) → length xs % 2 ≡ 0 → onto cs (xs ++ a ∷ e ∷ []) ≡ call a e ∷ onto cs xs
unfolding onto
onto_push cs [] a e h = refl
onto_push cs (x ∷ []) a e h = absurd (omega arith)
onto_push cs (x ∷ y ∷ xs) a e h = onto_push (call x y ∷ cs) xs a e (omega arith)

pub take_two_more : (xs : List ℕ) (i : ℕ) → i + 1 < length xs → take (i + 2) xs ≡ take i xs ++ (get_or xs i 0 ∷ (get_or xs (i + 1) 0 ∷ []))
take_two_more xs i l =
    let s : (i + 1) + 1 ≡ i + 2 = omega arith in
    let first = take_more xs i 0 (omega arith) in
    let second = take_more xs (i + 1) 0 l in
    let e : take (i + 2) xs ≡ take (i + 1) xs ++ (get_or xs (i + 1) 0 ∷ []) = rw s at second in
    e ∙ rw first (append_assoc (take i xs) (get_or xs i 0 ∷ []) (get_or xs (i + 1) 0 ∷ []))

-- the calls of two numbers more
pub calls_more :
    (xs left : List ℕ) (k : ℕ) → drop (2 * k) xs ≡ left → 1 < length left → calls (take (2 * (k + 1)) xs) ≡ call (get_or left 0 0) (get_or left 1 0) ∷ calls (take (2 * k) xs)
calls_more xs left k e l =
    let size : length left ≡ length xs - 2 * k = rw e at (length-drop (2 * k) xs) in
    let a : get_or left 0 0 ≡ get_or xs (2 * k) 0 = rw (e, add-zero) at (get_or-drop (2 * k) xs 0 0) in
    let b : get_or left 1 0 ≡ get_or xs (2 * k + 1) 0 = rw e at (get_or-drop (2 * k) xs 1 0) in
    let s : 2 * (k + 1) ≡ 2 * k + 2 = omega arith in
    let even : length (take (2 * k) xs) % 2 ≡ 0 = rw length-take (omega arith) in
    rw (a, b, s, take_two_more xs (2 * k) (omega arith)) (onto_push [] (take (2 * k) xs) (get_or xs (2 * k) 0) (get_or xs (2 * k + 1) 0) even)

-- the calls of all numbers are those of the first 2 k, and then the others
pub onto-append : (cs : List Call) (xs ys : List ℕ) → length xs % 2 ≡ 0 → onto cs (xs ++ ys) ≡ onto (onto cs xs) ys
unfolding onto
onto-append cs [] ys h = refl
onto-append cs (x ∷ []) ys h = absurd (omega arith)
onto-append cs (x ∷ y ∷ xs) ys h = onto-append (call x y ∷ cs) xs ys (omega arith)

pub written : Written
unfolding numbers
written = record { read_back = calls-numbers; write_back = λ xs h. numbers-onto [] xs h }
