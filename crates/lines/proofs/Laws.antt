-- The laws of lines, ways, squares, rows, partners and plans. Assumes nothing.
use Rattle.std.proofs.Common.{◌≡◌, ℕ, ◌-◌, ◌<◌, ◌≤◌, Bool, true, false, eqb, is_some, Some, None, Option, sym, refl, ◌∙◌, inl, inr, arith}
use Rattle.std.proofs.lemmas.Bool.{both_ways, cases_Bool, cases_eq, cases_lt, ne_eqb}
use Rattle.std.proofs.lemmas.Bool.Decides.{nat_tests}
use Rattle.plans.specs.declared.Square.{Square}
use Rattle.lines.specs.Line.{Lines, line}
use Rattle.lines.specs.Way.{within, distance, Way}
use Rattle.lines.specs.Square.{Round, square, Among, Smallest, smallest}
use Rattle.lines.specs.Law.{LinesSound, JoinedByWay, DistanceShortest, SmallestSquare, RowSorted, PartnerNearest, PlanDoes}
use Rattle.lines.proofs.Lines.{line-both, line-between}
use Rattle.lines.proofs.Ways.{way_within, within_way, distance_le, distance-below, distance-reached, distance_sooner, distance-middle}
use Rattle.lines.proofs.Rows.{times-row, sorted-row}
use Rattle.lines.proofs.Partners.{partner_is, partner_only}
use Rattle.lines.proofs.Squares.{four, smallest_is}
use Rattle.lines.proofs.Main.{plan-does}

pub lines_sound : LinesSound
lines_sound n xs right =
    record {
      both = line-both xs;
      there = λ i k t. let b = line-between n 0 0 xs right i k t in (b.0, b.1);
      apart = λ i. elim (cases_Bool (line xs i i)) [ inl t ↦ absurd ((line-between n 0 0 xs right i i t).2 refl) | inr f ↦ f ];
    }

-- a way of just so many lines as a hut is away
way_of : (n : ℕ) (l : Lines) (mid : ℕ → Bool) (i : ℕ) → distance n l mid i < n → Way n l mid (distance n l mid i) i
way_of n l mid i h =
    let w = within_way n l mid (distance n l mid i) i (distance-reached n l mid i h) in
    elim (cases_eq w.0 (distance n l mid i)) [
      | inl same ↦ rw same at w.2
      | inr other ↦
          let le = w.1 in
          absurd (both_ways (within n l mid w.0 i) (distance_sooner n l mid i w.0 (omega arith)) (way_within n l mid w.2))
    ]

pub joined_by_way : JoinedByWay
joined_by_way n l i li =
    record {
      way = λ t. (distance n l (eqb 0) i, way_of n l (eqb 0) i (grind (arith, nat_tests)));
      joins = λ d w. let h = distance-below n l (eqb 0) 0 (omega arith) refl d i li (way_within n l (eqb 0) w) in grind (arith, nat_tests);
    }

pub distance_shortest : DistanceShortest
distance_shortest n l mid m lm t i li =
    record {
      below = λ d w. distance-below n l mid m lm t d i li (way_within n l mid w);
      way = way_of n l mid i;
      none_shorter = λ d w. distance_le n l mid d i (way_within n l mid w);
    }

module _ (n : ℕ) (l : Lines) where
  -- the same four huts from the next one on, and the other way round
  turned : (a b c d : ℕ) → Round n l a b c d → Round n l b c d a
  turned a b c d r =
      let t = r.there in
      let p = r.apart in
      let q = r.lines in
      record {
        there = (t.1, t.2, t.3, t.0);
        apart = (p.3, p.4, λ e. p.0 (sym e), p.5, λ e. p.1 (sym e), λ e. p.2 (sym e));
        lines = (q.1, q.2, q.3, q.0);
      }

  flipped : ((i k : ℕ) → l i k ≡ l k i) → (a b c d : ℕ) → Round n l a b c d → Round n l a d c b
  flipped both a b c d r =
      let t = r.there in
      let p = r.apart in
      let q = r.lines in
      record {
        there = (t.0, t.3, t.2, t.1);
        apart = (p.2, p.1, p.0, λ e. p.5 (sym e), λ e. p.4 (sym e), λ e. p.3 (sym e));
        lines = (both a d ∙ q.3, both d c ∙ q.2, both c b ∙ q.1, both b a ∙ q.0);
      }

  abbrev Found : Type 0
  Found = (s : Square) × Among n (square l) s

  in_order : (a b c d : ℕ) → a < b → a < c → b < d → Round n l a b c d → Found
  in_order a b c d ab ac bd r =
      let p = r.apart in
      let bc : eqb b c ≡ false = ne_eqb b c p.3 in
      let cd : eqb c d ≡ false = ne_eqb c d p.5 in
      let q = r.lines in
      let q0 = q.0 in
      let q1 = q.1 in
      let q2 = q.2 in
      let q3 = q.3 in
      (four a b c d, record { there = r.there; is = grind (arith, nat_tests) })

  -- from the lowest hut on, one way round or the other
  from_lowest : ((i k : ℕ) → l i k ≡ l k i) → (a b c d : ℕ) → a < b → a < c → a < d → Round n l a b c d → Found
  from_lowest both a b c d ab ac ad r =
      elim (cases_lt b d) [
        | inl bd ↦ in_order a b c d ab ac bd r
        | inr db ↦ let ne = r.apart.4 in in_order a d c b ad ac (elim (cases_eq b d) [ inl e ↦ absurd (ne e) | inr o ↦ omega arith ]) (flipped both a b c d r)
      ]

  lower : (a b : ℕ) → (a ≡ b → ⊥) → b ≤ a → b < a
  lower a b ne le = elim (cases_eq a b) [ inl e ↦ absurd (ne e) | inr o ↦ omega arith ]

  -- one of the four is the lowest
  round_found : ((i k : ℕ) → l i k ≡ l k i) → (a b c d : ℕ) → Round n l a b c d → Found
  round_found both a b c d r =
      let p = r.apart in
      let rb = turned a b c d r in
      let rc = turned b c d a rb in
      let rd = turned c d a b rc in
      elim (cases_lt a b) [
        | inl ab ↦
            elim (cases_lt a c) [
              | inl ac ↦
                  elim (cases_lt a d) [
                    | inl ad ↦ from_lowest both a b c d ab ac ad r
                    | inr da ↦ let da' = lower a d p.2 da in from_lowest both d a b c da' (omega arith) (omega arith) rd
                  ]
              | inr ca ↦
                  let ca' = lower a c p.1 ca in
                  elim (cases_lt c d) [
                    | inl cd ↦ from_lowest both c d a b cd ca' (omega arith) rc
                    | inr dc ↦ let dc' = lower c d p.5 dc in from_lowest both d a b c (omega arith) (omega arith) dc' rd
                  ]
            ]
        | inr ba ↦
            let ba' = lower a b p.0 ba in
            elim (cases_lt b c) [
              | inl bc ↦
                  elim (cases_lt b d) [
                    | inl bd ↦ from_lowest both b c d a bc bd ba' rb
                    | inr db ↦ let db' = lower b d p.4 db in from_lowest both d a b c (omega arith) db' (omega arith) rd
                  ]
              | inr cb ↦
                  let cb' = lower b c p.3 cb in
                  elim (cases_lt c d) [
                    | inl cd ↦ from_lowest both c d a b cd (omega arith) cb' rc
                    | inr dc ↦ let dc' = lower c d p.5 dc in from_lowest both d a b c (omega arith) (omega arith) dc' rd
                  ]
            ]
      ]

  found_some : (o : Option Square) → Smallest n l o → Found → is_some o ≡ true
  found_some None h f = absurd (h f.0 f.1)
  found_some (Some s) h f = refl

pub smallest-square : SmallestSquare
smallest-square n l =
    record { is = smallest_is n l; found = λ both a b c d r. found_some n l (smallest n l) (smallest_is n l) (round_found n l both a b c d r) }

pub row-sorted : RowSorted
row-sorted n l mid joins =
    record {
      once =
          λ i.
          let count = times-row n l mid (n - 1) i in
          elim (cases_lt i n) [
            | inl li ↦ let far = joins i li in let at = distance-middle n l mid i (omega arith) in grind (arith, nat_tests)
            | inr past ↦ grind (arith, nat_tests)
          ];
      in_order = sorted-row n l mid (n - 1);
    }

pub partner_nearest : PartnerNearest
partner_nearest n l mid i pos h = record { is = partner_is n l mid i pos h; only = partner_only n l mid i }

pub plan_does_it : PlanDoes
plan_does_it = plan-does
