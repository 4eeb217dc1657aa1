-- Laws of what huts know: each is a type, and its proof is the theorem. Assumes nothing.
use Rattle.std.specs.Prelude.{◌≡◌, ℕ, false, T, List, ◌∷◌, ◌++◌, reverse}
use Rattle.calls.specs.Call.{Call, knows, with_either, Holds}

-- Nobody forgets.
abbrev pub Onward : Type 0
Onward = (cs : List Call) (c : Call) (i k : ℕ) → T (knows cs i k) → T (knows (c ∷ cs) i k)

-- Other calls in between do no harm.
abbrev pub Robust : Type 0
Robust = (ps cs : List Call) → Holds ps cs → (i k : ℕ) → T (knows ps i k) → T (knows cs i k)

-- Two calls one after the other that share no hut may change places.
abbrev pub Swap : Type 0
Swap =
    (cs : List Call) (c d : Call) → with_either c.a d ≡ false → with_either c.e d ≡ false → (i k : ℕ) → knows (c ∷ (d ∷ cs)) i k ≡ knows (d ∷ (c ∷ cs)) i k

-- the hut that had the news of k at a moment, and from which it came to i after that moment
pub record Between (later earlier : List Call) (i k : ℕ) : Type 0 where
  pub hut : ℕ
  pub after : T (knows later i hut)
  pub before : T (knows earlier hut k)

-- What happens before and after a moment composes: i knows of k exactly if at that moment some hut knew of k from which it came to i.
pub record Composed (later earlier : List Call) (i k : ℕ) : Type 0 where
  pub parts : T (knows (later ++ earlier) i k) → Between later earlier i k
  pub whole : Between later earlier i k → T (knows (later ++ earlier) i k)

abbrev pub Composes : Type 0
Composes = (later earlier : List Call) (i k : ℕ) → Composed later earlier i k

-- In turned time, the same calls made in the opposite order, what came from k to i goes from i to k.
abbrev pub Turned : Type 0
Turned = (cs : List Call) (i k : ℕ) → knows (reverse cs) k i ≡ knows cs i k
