-- Squares. Assumes nothing.
--     Round n l a b c d     four different huts with lines a-b, b-c, c-d and d-a
--     square l a b c d      the same as a test, with a the lowest of the four and b below d
--     before s t            s is smaller than t when a, b, c, d are compared in order
--     Smallest n l o        o is a square and none is smaller, or there is none
--     smallest n l          the smallest square, if there is one
use Rattle.std.specs.Prelude.{◌≡◌, ℕ, ◌<◌, Bool, true, false, cond, not, ◌&&◌, ◌||◌, Some, None, Option, ◌==◌, ◌≢◌, nat_lt}
use Rattle.plans.specs.declared.Square.{Square}
use Rattle.lines.specs.Line.{Lines}
use Rattle.lines.specs.Way.{lowest, some}

pub record Round (n : ℕ) (l : Lines) (a b c d : ℕ) : Type 0 where
  pub there : (a < n) × (b < n) × (c < n) × (d < n)
  pub apart : (a ≢ b) × (a ≢ c) × (a ≢ d) × (b ≢ c) × (b ≢ d) × (c ≢ d)
  pub lines : (l a b ≡ true) × (l b c ≡ true) × (l c d ≡ true) × (l d a ≡ true)

abbrev pub square : Lines → ℕ → ℕ → ℕ → ℕ → Bool
square l a b c d = (nat_lt a b && (nat_lt a c && (nat_lt b d && (not (b == c) && not (c == d))))) && (l a b && (l b c && (l c d && l d a)))

abbrev pub before : Square → Square → Bool
before s t =
    nat_lt s.a t.a
    || (s.a == t.a && (nat_lt s.b t.b || (s.b == t.b && (nat_lt s.c t.c || (s.c == t.c && nat_lt s.d t.d)))))

-- four of n huts that pass a test
pub record Among (n : ℕ) (test : ℕ → ℕ → ℕ → ℕ → Bool) (s : Square) : Type 0 where
  pub there : (s.a < n) × (s.b < n) × (s.c < n) × (s.d < n)
  pub is : test s.a s.b s.c s.d ≡ true

-- four that pass it, and none smaller does; or there are none
abbrev pub SmallestBy : ℕ → (ℕ → ℕ → ℕ → ℕ → Bool) → Option Square → Type 0
SmallestBy n test None = (t : Square) → Among n test t → ⊥
SmallestBy n test (Some s) = Among n test s × ((t : Square) → Among n test t → before t s ≡ false)

-- s is a square of lines among n huts
abbrev pub IsSquare : ℕ → Lines → Square → Type 0
IsSquare n l s = Among n (square l) s

-- s is a square, and none is smaller; or there is none
abbrev pub Smallest : ℕ → Lines → Option Square → Type 0
Smallest n l o = SmallestBy n (square l) o

-- huts below n that go on to a square: a, b and c; a and b; a alone
abbrev pub goes_on3 : ℕ → Lines → ℕ → ℕ → ℕ → Bool
goes_on3 n l a b c = some (square l a b c) n

abbrev pub goes_on2 : ℕ → Lines → ℕ → ℕ → Bool
goes_on2 n l a b = some (goes_on3 n l a b) n

abbrev pub goes_on1 : ℕ → Lines → ℕ → Bool
goes_on1 n l a = some (goes_on2 n l a) n

-- the lowest a that goes on to a square, with it the lowest b, with both the lowest c, and with them the lowest d
abbrev pub first_a : ℕ → Lines → ℕ
first_a n l = lowest (goes_on1 n l) n

abbrev pub first_b : ℕ → Lines → ℕ → ℕ
first_b n l a = lowest (goes_on2 n l a) n

abbrev pub first_c : ℕ → Lines → ℕ → ℕ → ℕ
first_c n l a b = lowest (goes_on3 n l a b) n

abbrev pub first_d : ℕ → Lines → ℕ → ℕ → ℕ → ℕ
first_d n l a b c = lowest (square l a b c) n

abbrev from_c : ℕ → Lines → ℕ → ℕ → ℕ → Square
from_c n l a b c = record { a = a; b = b; c = c; d = first_d n l a b c }

abbrev from_b : ℕ → Lines → ℕ → ℕ → Square
from_b n l a b = from_c n l a b (first_c n l a b)

abbrev from_a : ℕ → Lines → ℕ → Square
from_a n l a = from_b n l a (first_b n l a)

unfoldable pub smallest : ℕ → Lines → Option Square
smallest n l = cond (nat_lt (first_a n l) n) (Some (from_a n l (first_a n l))) None
