-- Rows of sets of huts: how they begin, and what a call makes of them. Assumes nothing.
use Rattle.std.proofs.Common.{◌≡◌, ℕ, ◌<◌, ◌≤◌, Bool, cond, ◌&&◌, ◌||◌, T, eqb, ltb, List, [], ◌∷◌, length, get_or, set, map, Option, None, Some, MatchOption, ap, inl, inr, arith, ◌∙◌, sym}
use Rattle.std.specs.List.{range_with_len}
use Rattle.std.proofs.lemmas.List.{get_or-map, get_or-set_same, get_or-set_other, length-map, length-set}
use Rattle.std.proofs.lemmas.List.FromFn.{get_or-map-range_with_len, length-map-range_with_len}
use Rattle.std.proofs.lemmas.Bool.{cases_eq, cases_lt}
use Rattle.std.proofs.lemmas.Iterator.{YieldsList, items_from_drains}
use Rattle.std.specs.Iterator.{Drains}
use Rattle.std.proofs.lemmas.Bool.Decides.{nat_tests}
use Rattle.calls.specs.Call.{Call, call, knows, with_either}
use Rattle.calls.proofs.Known.{onward}
use Rattle.sets.specs.Set.{in_set, row_of, LowestMissing}
use Rattle.sets.specs.declared.HutSet.{HutSet}
use Rattle.knowledge.specs.Row.{Stands, Full, Lack, Behind}

-- no words
abbrev empty : HutSet
empty = record { words = [] }

-- the set of hut i alone, as a test
abbrev pub alone : ℕ → ℕ → Bool
alone i k = eqb i k && ltb k 1024

pub alone_in : (s : HutSet) (i : ℕ) → ((k : ℕ) → in_set s k ≡ alone i k) → in_set s ≡ alone i
alone_in s i same = λ d k. same k d

-- the items of a chain that ran to its end are those that it yields
pub drained : {S A B : Type 0} {steps : S → Option A → S → Type 0} {v : A → B} {s : S} {all : List B} (xs : List A) → Drains steps s xs → YieldsList steps v s all → map v xs ≡ all
drained xs d e = items_from_drains xs (d.1.0, d.1.1, λ _. (d.0, d.1.2)) e

-- a row for each of n huts, with the hut alone
pub stands_alone : (n : ℕ) (rows : List HutSet) → n ≤ 1024 → map in_set rows ≡ map alone (range_with_len 0 n) → Stands n rows []
unfolding knows
stands_alone n rows within e =
    let size : length rows ≡ n = sym (length-map rows in_set) ∙ ap length e ∙ length-map-range_with_len alone 0 n in
    record {
      size = size;
      bits =
          λ i k l.
          let there : i < length rows = omega arith in
          let row : get_or (map in_set rows) i (in_set empty) ≡ in_set (row_of rows i) = get_or-map in_set rows i empty (in_set empty) there in
          let own : get_or (map alone (range_with_len 0 n)) i (in_set empty) ≡ alone i = get_or-map-range_with_len alone 0 n i i (in_set empty) l (omega arith) in
          let same : in_set (row_of rows i) ≡ alone i = cc in
          let at : in_set (row_of rows i) k ≡ alone i k = ap (λ (t : ℕ → Bool). t k) same in
          at ∙ grind (arith, nat_tests);
    }

-- two rows become the same set
pub row_join :
    (rows : List HutSet) (s : HutSet) (a e i : ℕ) → a < length rows → e < length rows → row_of (set (set rows a s) e s) i ≡ cond (with_either i (call a e)) s (row_of rows i)
row_join rows s a e i la le =
    let le' : e < length (set rows a s) = rw length-set le in
    elim (cases_eq i e) [
      | inl same ↦ rw same (let r = get_or-set_same (set rows a s) e s empty le' in grind (arith, nat_tests))
      | inr apart ↦
          let r = get_or-set_other (set rows a s) e i s empty apart in
          elim (cases_eq i a) [
            | inl same ↦ rw same (let q = get_or-set_same rows a s empty la in let r' = rw same at r in grind (arith, nat_tests))
            | inr other ↦ let q = get_or-set_other rows a i s empty other in grind (arith, nat_tests)
          ]
    ]

-- a call: both rows become the set that has what either had
pub stands_join :
    (n : ℕ) (rows : List HutSet) (cs : List Call) (a e : ℕ) (s : HutSet) → a < length rows → e < length rows → Stands n rows cs →
    ((k : ℕ) → in_set s k ≡ (in_set (row_of rows a) k || in_set (row_of rows e) k)) → Stands n (set (set rows a s) e s) (call a e ∷ cs)
unfolding knows
stands_join n rows cs a e s la le before both =
    record {
      size = rw (length-set, length-set) before.size;
      bits =
          λ i k l.
          let r = row_join rows s a e i la le in
          let b = both k in
          let p = before.bits a k (omega arith) in
          let q = before.bits e k (omega arith) in
          let t = before.bits i k l in
          rw r (grind (arith, nat_tests));
    }

-- Nobody forgets: who lacked none before a call lacks none after it.
pub full_onward : (n : ℕ) (rows rows' : List HutSet) (cs : List Call) (c : Call) (i : ℕ) → Stands n rows cs → Stands n rows' (c ∷ cs) → i < n → Full n rows i → Full n rows' i
full_onward n rows rows' cs c i old new l full k lk =
    let t : T (knows cs i k) = rw (old.bits i k l) at (full k lk) in
    rw (new.bits i k l) (onward cs c i k t)

-- So a search may go on where the last one ended.
pub behind_onward :
    (rows rows' : List HutSet) (cs : List Call) (c : Call) (i k : ℕ) (r : Option (ℕ × ℕ)) → Stands (length rows') rows cs → Stands (length rows') rows' (c ∷ cs) →
    Lack rows 0 i k → Behind rows' i r → Behind rows' 0 r
behind_onward rows rows' cs c i k None old new low none =
    λ j since l. elim (cases_lt j i) [ inl less ↦ full_onward (length rows') rows rows' cs c j old new l (rw old.size at (low.before j since less)) | inr more ↦ none j more l ]
behind_onward rows rows' cs c i k (Some p) old new low behind =
    record {
      since = omega arith;
      hut = behind.hut;
      other = behind.other;
      lowest = behind.lowest;
      before =
          λ j since l.
          let h : j < length rows' = omega (arith, behind.hut) in
          elim (cases_lt j i) [
            | inl less ↦ full_onward (length rows') rows rows' cs c j old new h (rw old.size at (low.before j since less))
            | inr more ↦ behind.before j more l
          ];
    }

-- what each row lacks tells which is the first that lacks any
pub behind_found :
    (rows : List HutSet) (f : ℕ) (r : Option (ℕ × ℕ)) →
    MatchOption r
    ((i : ℕ) → f ≤ i → i < length rows → LowestMissing (length rows) (row_of rows i) None)
    (λ p.
    (i : ℕ) × (f ≤ i) × (i < length rows) × ((p.0 ≡ i) × LowestMissing (length rows) (row_of rows i) (Some p.1))
    × ((j : ℕ) → f ≤ j → j < i → LowestMissing (length rows) (row_of rows j) None)) →
    Behind rows f r
behind_found rows f None none = λ i since l k lk. (none i since l).before k lk
behind_found rows f (Some p) (i, since, l, (same, (other, lowest)), none) =
    record {
      since = omega arith;
      hut = omega arith;
      other = other;
      lowest = rw same lowest;
      before = λ j since' l' k lk. (none j since' (omega arith)).before k lk;
    }
