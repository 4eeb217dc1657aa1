-- How many calls it takes at least, whatever the calls are: each is a type, and its proof is the theorem. Assumes nothing.
use Rattle.std.specs.Prelude.{ℕ, ◌-◌, ◌*◌, ◌<◌, ◌≤◌, T, List, length}
use Rattle.calls.specs.Call.{Call, knows, AllKnow, among}

-- No list of calls whatever among four huts or more, planned or not, does it with fewer than 2 n - 4 calls.
abbrev pub NoneFewer : Type 0
NoneFewer = (n : ℕ) → 4 ≤ n → (cs : List Call) → T (among n cs) → AllKnow n cs → 2 * n - 4 ≤ length cs

-- From three huts on there are at least as many calls as huts, even if other huts take part.
abbrev pub AsManyAsHuts : Type 0
AsManyAsHuts = (n : ℕ) → 3 ≤ n → (cs : List Call) → AllKnow n cs → n ≤ length cs

-- What one hut saw takes n - 1 calls to come to everybody, even if other huts take part.
abbrev pub OneToAll : Type 0
OneToAll = (n : ℕ) (cs : List Call) (i : ℕ) → i < n → ((k : ℕ) → k < n → T (knows cs k i)) → n - 1 ≤ length cs

-- For one hut to hear from everybody takes as many.
abbrev pub AllToOne : Type 0
AllToOne = (n : ℕ) (cs : List Call) (i : ℕ) → i < n → ((k : ℕ) → k < n → T (knows cs i k)) → n - 1 ≤ length cs
