-- Rows of neighbours: what a line makes of them, and the lines that they tell. Assumes nothing.
use Rattle.std.proofs.Common.{◌≡◌, ℕ, ◌-◌, ◌%◌, ◌^◌, ◌<◌, ◌≤◌, true, false, ◌&&◌, ◌||◌, eqb, ltb, List, [], ◌∷◌, length, get_or, take, drop, set, replicate, vec_items, None, refl, inl, inr, arith}
use Rattle.std.proofs.lemmas.List.{get_or-set_same, get_or-set_other, get_or-replicate, get_or_past, get_or_read, length-replicate, length-set, take_rest}
use Rattle.std.proofs.Math.Nat.{zero-div}
use Rattle.std.proofs.lemmas.Bool.{cases_eq, cases_lt, cases_Bool}
use Rattle.std.proofs.lemmas.Bool.Decides.{nat_tests}
use Rattle.sets.specs.declared.HutSet.{HutSet}
use Rattle.sets.specs.Set.{has, in_set}
use Rattle.lines.specs.Line.{line, wrong}
use Rattle.lines.proofs.Lines.{line-between}
use Rattle.sets.specs.Set.{row_of}
use Rattle.rows.specs.declared.table.Rows.{Rows}
use Rattle.rows.specs.Rows.{huts, tells}

abbrev pub empty : HutSet
empty = record { words = [] }

-- both huts of a line get the other into their rows
module _ (rows : List HutSet) (a e : ℕ) (la : a < length rows) (le : e < length rows) (few : length rows ≤ 1024) (s t : HutSet)
    (first : (k : ℕ) → in_set s k ≡ ((eqb e k && ltb k 1024) || in_set (row_of rows a) k))
    (second : (k : ℕ) → in_set t k ≡ ((eqb a k && ltb k 1024) || in_set (row_of (set rows a s) e) k)) where
  pub row_line : (i k : ℕ) → in_set (row_of (set (set rows a s) e t) i) k ≡ (((eqb i a && eqb k e) || (eqb i e && eqb k a)) || in_set (row_of rows i) k)
  row_line i k =
      let le' : e < length (set rows a s) = rw length-set le in
      let f = first k in
      let g = second k in
      elim (cases_eq i e) [
        | inl same ↦
            rw (same, get_or-set_same (set rows a s) e t empty le')
            (elim (cases_eq e a) [
              | inl both ↦
                  let r : row_of (set rows a s) e ≡ s = rw both (get_or-set_same rows a s empty la) in
                  let g' : in_set t k ≡ ((eqb a k && ltb k 1024) || in_set s k) = rw r at g in
                  let h : in_set (row_of rows a) k ≡ in_set (row_of rows e) k = rw both in
                  grind (arith, nat_tests)
              | inr apart ↦
                  let r : row_of (set rows a s) e ≡ row_of rows e = get_or-set_other rows a e s empty apart in
                  let g' : in_set t k ≡ ((eqb a k && ltb k 1024) || in_set (row_of rows e) k) = rw r at g in
                  grind (arith, nat_tests)
            ])
        | inr not-e ↦
            rw (get_or-set_other (set rows a s) e i t empty not-e)
            (elim (cases_eq i a) [
              | inl same ↦ rw (same, get_or-set_same rows a s empty la) (grind (arith, nat_tests))
              | inr not_a ↦ rw (get_or-set_other rows a i s empty not_a) (grind (arith, nat_tests))
            ])
      ]

-- the line that comes next is between huts that are there
pub next_there : (left : List ℕ) (n : ℕ) → ((i k : ℕ) → line left i k ≡ true → i < n) → 2 ≤ length left → (get_or left 0 0 < n) × (get_or left 1 0 < n)
unfolding line
next_there [] n there h = absurd (omega arith)
next_there (a ∷ []) n there h = absurd (omega arith)
next_there (a ∷ e ∷ left) n there h = (there a e (grind (arith, nat_tests)), there e a (grind (arith, nat_tests)))

-- the lines left are those of the next, or of the rest
pub next_line : (left : List ℕ) (i k : ℕ) → 2 ≤ length left →
    line left i k ≡ (((eqb i (get_or left 0 0) && eqb k (get_or left 1 0)) || (eqb i (get_or left 1 0) && eqb k (get_or left 0 0))) || line (take (length left - 2) (drop 2 left)) i k)
unfolding line
next_line [] i k h = absurd (omega arith)
next_line (a ∷ []) i k h = absurd (omega arith)
next_line (a ∷ e ∷ left) i k h = rw (take_rest (a ∷ (e ∷ left)) 2)

-- no line is left
pub none_left : (left : List ℕ) (i k : ℕ) → length left ≤ 1 → line left i k ≡ false
unfolding line
none_left [] i k h = refl
none_left (a ∷ []) i k h = refl
none_left (a ∷ e ∷ left) i k h = absurd (omega arith)

-- where there is no set there is no hut
none_empty : (k : ℕ) → in_set empty k ≡ false
unfolding in_set has
none_empty k = rw (zero-div (2 ^ (k % 64))) (grind arith)

-- copies of a set without huts have no hut
pub none_in : (s : HutSet) (rows : List HutSet) (n : ℕ) → ((k : ℕ) → in_set s k ≡ false) → rows ≡ replicate n s → (i k : ℕ) → in_set (row_of rows i) k ≡ false
none_in s rows n none e i k =
    elim (cases_lt i n) [
      | inl li ↦ rw (e, get_or-replicate n i s empty li) (none k)
      | inr past ↦ rw (e, get_or_past (replicate n s) i empty (rw (length-replicate n s) past)) (none_empty k)
    ]

-- a read of a row
pub row_read : (rows : Rows) (i : ℕ) (r : HutSet) → i < huts rows → r ≡ get_or (vec_items rows.of) i r → r ≡ row_of (vec_items rows.of) i
row_read rows i r l e = get_or_read (vec_items rows.of) i r l e empty

-- rows that have each hut's neighbours tell the lines
pub told_line :
    (rows : List HutSet) (n : ℕ) (xs : List ℕ) → length rows ≡ n → wrong n xs ≡ None → ((i k : ℕ) → i < n → in_set (row_of rows i) k ≡ line xs i k) → tells rows ≡ line xs
told_line rows n xs size right same =
    let each : (i k : ℕ) → tells rows i k ≡ line xs i k =
    λ i k.
    elim (cases_lt i n) [
      | inl li ↦ let s = same i k li in grind (arith, nat_tests)
      | inr past ↦
          elim (cases_Bool (line xs i k)) [
            | inl t ↦ let b = line-between n 0 0 xs right i k t in let l = b.0 in absurd (omega arith)
            | inr f ↦ grind (arith, nat_tests)
          ]
    ]
    in
    λ d i k. each i k d
