-- Laws of what huts know. Assumes nothing.
use Rattle.std.proofs.Common.{◌≡◌, ℕ, true, false, T, ◌⊎◌, List, [], ◌∷◌, ◌++◌, reverse, refl, inl, inr, arith, eqb→eq}
use mathlib.Core.List.{reverse-cons, reverse-reverse}
use lib.Dec.{eqb_refl}
use Rattle.std.proofs.lemmas.Bool.{cases_Bool}
use Rattle.std.proofs.lemmas.Bool.Decides.{nat_tests}
use Rattle.calls.specs.Call.{Call, knows, with_either, busy, none, same, more}
use Rattle.calls.specs.Law.{Onward, Robust, Swap, Composes, Between, Turned}

pub onward : Onward
unfolding knows
onward cs c i k t = grind (arith, nat_tests)

-- later calls take nothing away
pub keeps : (ls cs : List Call) (i k : ℕ) → T (knows cs i k) → T (knows (ls ++ cs) i k)
keeps [] cs i k t = t
keeps (c ∷ ls) cs i k t = onward (ls ++ cs) c i k (keeps ls cs i k t)

-- a hut knows what it saw itself
pub knows_own : (cs : List Call) (i : ℕ) → T (knows cs i i)
unfolding knows
knows_own [] i = grind (arith, nat_tests)
knows_own (c ∷ cs) i = onward cs c i i (knows_own cs i)

-- who knows no less before a call knows no less after it
pub same_call : (ps cs : List Call) (c : Call) (k : ℕ) → ((i : ℕ) → T (knows ps i k) → T (knows cs i k)) → (i : ℕ) → T (knows (c ∷ ps) i k) → T (knows (c ∷ cs) i k)
unfolding knows
same_call ps cs c k keep i t = let a = keep c.a in let e = keep c.e in let h = keep i in grind (arith, nat_tests)

pub robust : Robust
unfolding knows
robust ps cs none i k t = rw (← eqb→eq i k t) (knows_own cs i)
robust ps cs (same {c = c} {ps = ps'} {cs = cs'} h) i k t = same_call ps' cs' c k (λ j. robust ps' cs' h j k) i t
robust ps cs (more {c = c} {cs = cs'} h) i k t = onward cs' c i k (robust ps cs' h i k t)

pub swap : Swap
unfolding knows
swap cs c d p q i k = grind (arith, nat_tests)

-- a call that hut i is not in changes nothing for it
pub knows-apart : (cs : List Call) (c : Call) (i k : ℕ) → with_either i c ≡ false → knows (c ∷ cs) i k ≡ knows cs i k
unfolding knows
knows-apart cs c i k h = grind (arith, nat_tests)

-- both in a call get what either knew
pub knows_first : (cs : List Call) (c : Call) (i k : ℕ) → with_either i c ≡ true → T (knows cs c.a k) → T (knows (c ∷ cs) i k)
unfolding knows
knows_first cs c i k h t = grind (arith, nat_tests)

pub knows_second : (cs : List Call) (c : Call) (i k : ℕ) → with_either i c ≡ true → T (knows cs c.e k) → T (knows (c ∷ cs) i k)
unfolding knows
knows_second cs c i k h t = grind (arith, nat_tests)

-- both in a call know the same after it
pub knows_same : (cs : List Call) (c : Call) (i j k : ℕ) → with_either i c ≡ true → with_either j c ≡ true → knows (c ∷ cs) i k ≡ knows (c ∷ cs) j k
unfolding knows
knows_same cs c i j k p q = grind (arith, nat_tests)

-- what i knows of k after the call c, some hut knew before: i itself, or one of the two in the call, and then i is in it too
pub record From (c : Call) (cs : List Call) (i k : ℕ) : Type 0 where
  pub hut : ℕ
  pub knew : T (knows cs hut k)
  pub near : (hut ≡ i) ⊎ ((with_either i c ≡ true) × (with_either hut c ≡ true))

pub knows_from : (cs : List Call) (c : Call) (i k : ℕ) → T (knows (c ∷ cs) i k) → From c cs i k
unfolding knows
knows_from cs c i k t =
    elim (cases_Bool (with_either i c)) [
      | inr apart ↦ record { hut = i; knew = rw (knows-apart cs c i k apart) at t; near = inl refl }
      | inl in_it ↦
          elim (cases_Bool (knows cs c.a k)) [
            | inl first ↦ record { hut = c.a; knew = grind arith; near = inr (in_it, grind (arith, nat_tests)) }
            | inr other ↦ record { hut = c.e; knew = grind (arith, nat_tests); near = inr (in_it, grind (arith, nat_tests)) }
          ]
    ]

-- that hut and i know the same after the call, whatever came before it
pub alike : (c : Call) (cs : List Call) (i k : ℕ) (f : From c cs i k) (ds : List Call) (m : ℕ) → knows (c ∷ ds) f.hut m ≡ knows (c ∷ ds) i m
alike c cs i k f ds m = elim f.near [ inl itself ↦ rw itself refl | inr both ↦ knows_same ds c f.hut i m both.1 both.0 ]

passes : (c : Call) (cs : List Call) (i k : ℕ) (f : From c cs i k) (ds : List Call) (m : ℕ) → T (knows ds f.hut m) → T (knows (c ∷ ds) i m)
passes c cs i k f ds m t = rw (alike c cs i k f ds m) at (onward ds c f.hut m t)

pub composes : Composes
unfolding knows
composes [] earlier i k =
    record {
      parts = λ t. record { hut = i; after = eqb_refl i; before = t };
      whole = λ b. rw (eqb→eq i b.hut b.after) b.before;
    }
composes (c ∷ later) earlier i k =
    record {
      parts =
          λ t.
          let f : From c (later ++ earlier) i k = knows_from (later ++ earlier) c i k t in
          let b : Between later earlier f.hut k = (composes later earlier f.hut k).parts f.knew in
          record { hut = b.hut; after = passes c (later ++ earlier) i k f later b.hut b.after; before = b.before };
      whole =
          λ b.
          let f : From c later i b.hut = knows_from later c i b.hut b.after in
          passes c later i b.hut f (later ++ earlier) k ((composes later earlier f.hut k).whole (record { hut = b.hut; after = f.knew; before = b.before }));
    }

turned_from : (cs : List Call) (i k : ℕ) → T (knows cs i k) → T (knows (reverse cs) k i)
unfolding knows
turned_from [] i k t = grind (arith, nat_tests)
turned_from (c ∷ cs) i k t =
    let f : From c cs i k = knows_from cs c i k t in
    let first : T (knows (c ∷ []) f.hut i) = rw (alike c cs i k f [] i) (knows_own (c ∷ []) i) in
    rw (reverse-cons c cs) ((composes (reverse cs) (c ∷ []) k i).whole (record { hut = f.hut; after = turned_from cs f.hut k f.knew; before = first }))

pub turned : Turned
turned cs i k =
    let forth = turned_from cs i k in
    let back : T (knows (reverse cs) k i) → T (knows cs i k) = λ t. rw (reverse-reverse cs) at (turned_from (reverse cs) k i t) in
    grind arith

-- a hut in no call knows only what it saw itself, and no other knows that
pub idle-knows : (cs : List Call) (i k : ℕ) → busy i cs ≡ false → T (knows cs i k) → i ≡ k
unfolding knows busy
idle-knows [] i k b t = eqb→eq i k t
idle-knows (c ∷ cs) i k b t = idle-knows cs i k (grind (arith, nat_tests)) (grind (arith, nat_tests))

pub idle_known : (cs : List Call) (i k : ℕ) → busy k cs ≡ false → T (knows cs i k) → i ≡ k
unfolding knows busy
idle_known [] i k b t = eqb→eq i k t
idle_known (c ∷ cs) i k b t =
    let f : From c cs i k = knows_from cs c i k t in
    let own : f.hut ≡ k = idle_known cs f.hut k (grind (arith, nat_tests)) f.knew in
    elim f.near [ inl here ↦ cc | inr both ↦ absurd (grind (arith, nat_tests)) ]
