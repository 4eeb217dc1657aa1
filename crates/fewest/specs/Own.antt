-- Huts that hear their own news. Assumes nothing.
--     told_by v cs x       hut v, which is not x, knows what x saw, after the calls cs: in a call it tells x its own news
--     hears_in c cs x      in the call c, made after the calls cs, hut x is told its own news
--     hears cs x           in some call of cs hut x is told its own news
--     NobodyHears n cs     none of the huts 0 to n - 1 is, in any call of cs
use Rattle.std.specs.Prelude.{◌≡◌, ℕ, suc, ◌+◌, ◌<◌, ◌≤◌, Bool, false, not, ◌&&◌, ◌||◌, T, ◌↔◌, List, [], ◌∷◌, ◌++◌, length, ◌==◌}
use Rattle.calls.specs.Call.{Call, knows, AllKnow, among, busy}

abbrev pub told_by : ℕ → List Call → ℕ → Bool
told_by v cs x = not (v == x) && knows cs v x

abbrev pub hears_in : Call → List Call → ℕ → Bool
hears_in c cs x = (x == c.a && told_by c.e cs x) || (x == c.e && told_by c.a cs x)

unfoldable pub hears : List Call → ℕ → Bool
hears [] x = false
hears (c ∷ cs) x = hears_in c cs x || hears cs x

-- a moment at which another hut knows what x saw, and from which that comes back to x
pub record Back (cs : List Call) (x : ℕ) : Type 0 where
  pub later : List Call
  pub earlier : List Call
  pub whole : later ++ earlier ≡ cs
  pub hut : ℕ
  pub other : hut ≡ x → ⊥
  pub out : T (knows earlier hut x)
  pub back : T (knows later x hut)

-- A hut hears its own news exactly if there is such a moment.
abbrev pub ComesBack : Type 0
ComesBack = (cs : List Call) (x : ℕ) → T (hears cs x) ↔ Back cs x

abbrev pub NobodyHears : ℕ → List Call → Type 0
NobodyHears n cs = (x : ℕ) → x < n → hears cs x ≡ false

-- a list for n huts that does it, with two calls fewer than cs
pub record TwoFewer (n : ℕ) (cs : List Call) : Type 0 where
  pub calls : List Call
  pub apart : T (among n calls)
  pub all_know : AllKnow n calls
  pub fewer : length calls + 2 ≤ length cs

-- A list that does it, and in which somebody hears its own news, gives one for a hut fewer with two calls fewer.
abbrev pub HearingCosts : Type 0
HearingCosts = (n : ℕ) (cs : List Call) → T (among (suc n) cs) → AllKnow (suc n) cs → (x : ℕ) → x < suc n → T (hears cs x) → TwoFewer n cs

-- before the call c, made after the calls earlier and before the calls later, its two huts had both called or both not; and so after it
pub record Together (later : List Call) (c : Call) (earlier : List Call) : Type 0 where
  pub before : busy c.a earlier ≡ busy c.e earlier
  pub after : busy c.a later ≡ busy c.e later

-- In a list that does it, and in which nobody hears its own news, first calls are first for both, and last calls are last for both.
abbrev pub FirstAndLast : Type 0
FirstAndLast =
    (n : ℕ) (later : List Call) (c : Call) (earlier : List Call) → let cs : List Call = later ++ (c ∷ earlier) in
    T (among n cs) → AllKnow n cs → NobodyHears n cs → Together later c earlier
