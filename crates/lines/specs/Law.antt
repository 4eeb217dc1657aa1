-- What lines, ways, squares, rows, partners and plans are, in the words of the subject: each is a type, and its proof is the theorem. Assumes nothing.
use Rattle.std.specs.Prelude.{◌≡◌, ℕ, ◌<◌, ◌≤◌, Bool, true, false, cond, not, ◌&&◌, List, is_some, None, nat_eq, nat_lt}
use Rattle.lines.specs.Line.{Lines, line, wrong}
use Rattle.lines.specs.Way.{distance, joined, Way}
use Rattle.lines.specs.Square.{Round, Smallest, smallest}
use Rattle.lines.specs.Row.{row, partner}
use Rattle.lines.specs.Order.{times, sorted}
use Rattle.lines.specs.Partner.{Partner}
use Rattle.lines.specs.Plan.{plan, Joins, Does}

-- Lines without a fault go both ways, between different huts that are there.
pub record Sound (n : ℕ) (l : Lines) : Type 0 where
  pub both : (i k : ℕ) → l i k ≡ l k i
  pub there : (i k : ℕ) → l i k ≡ true → (i < n) × (k < n)
  pub apart : (i : ℕ) → l i i ≡ false

abbrev pub LinesSound : Type 0
LinesSound = (n : ℕ) (xs : List ℕ) → wrong n xs ≡ None → Sound n (line xs)

-- A hut is joined exactly if a way of lines leads from it to hut 0.
pub record JoinedBy (n : ℕ) (l : Lines) (i : ℕ) : Type 0 where
  pub way : joined n l i ≡ true → (d : ℕ) × Way n l (nat_eq 0) d i
  pub joins : (d : ℕ) → Way n l (nat_eq 0) d i → joined n l i ≡ true

abbrev pub JoinedByWay : Type 0
JoinedByWay = (n : ℕ) (l : Lines) (i : ℕ) → i < n → JoinedBy n l i

-- Where a way leads to the middle at all, the distance is below n, there is a way of so many lines, and none of fewer.
pub record Shortest (n : ℕ) (l : Lines) (mid : ℕ → Bool) (i : ℕ) : Type 0 where
  pub below : (d : ℕ) → Way n l mid d i → distance n l mid i < n
  pub way : distance n l mid i < n → Way n l mid (distance n l mid i) i
  pub none_shorter : (d : ℕ) → Way n l mid d i → distance n l mid i ≤ d

abbrev pub DistanceShortest : Type 0
DistanceShortest = (n : ℕ) (l : Lines) (mid : ℕ → Bool) (m : ℕ) → m < n → mid m ≡ true → (i : ℕ) → i < n → Shortest n l mid i

-- The smallest square is one and none is smaller; and if any four huts whatever have lines round a square, there is one.
pub record SquareSmallest (n : ℕ) (l : Lines) : Type 0 where
  pub is : Smallest n l (smallest n l)
  pub found : ((i k : ℕ) → l i k ≡ l k i) → (a b c d : ℕ) → Round n l a b c d → is_some (smallest n l) ≡ true

abbrev pub SmallestSquare : Type 0
SmallestSquare = (n : ℕ) (l : Lines) → SquareSmallest n l

-- Where all are joined to the middle, the row has each other hut once and no hut else, nearer ones first, lower ones first among equals.
pub record InRow (n : ℕ) (l : Lines) (mid : ℕ → Bool) : Type 0 where
  pub once : (i : ℕ) → times i (row n l mid) ≡ cond (nat_lt i n && not (mid i)) 1 0
  pub in_order : sorted (distance n l mid) (row n l mid) ≡ true

abbrev pub RowSorted : Type 0
RowSorted = (n : ℕ) (l : Lines) (mid : ℕ → Bool) → ((i : ℕ) → i < n → distance n l mid i < n) → InRow n l mid

-- Outside the middle the partner is a neighbour, nearer by a line, with no neighbour nearer and none as near lower; and nobody else is.
pub record OnePartner (n : ℕ) (l : Lines) (mid : ℕ → Bool) (i : ℕ) : Type 0 where
  pub is : Partner n l mid i (partner n l mid i)
  pub only : (k : ℕ) → Partner n l mid i k → partner n l mid i ≡ k

abbrev pub PartnerNearest : Type 0
PartnerNearest = (n : ℕ) (l : Lines) (mid : ℕ → Bool) (i : ℕ) → 0 < distance n l mid i → distance n l mid i < n → OnePartner n l mid i

-- The plan's calls are along lines, bring everything to everybody, with any others in between too, and are 2n - 4 with a square, 2n - 3 without.
abbrev pub PlanDoes : Type 0
PlanDoes = (n : ℕ) (l : Lines) → Joins n l → Does n l (smallest n l) (plan n l)
