-- The plan for huts with missing lines does it, along the lines, with as many calls as promised. Assumes nothing.
use Rattle.std.proofs.Common.{◌≡◌, ℕ, zero, suc, ◌+◌, ◌-◌, ◌<◌, Bool, true, not, ◌&&◌, ◌||◌, T, eqb, ltb, leb, List, [], ◌∷◌, ◌++◌, length, Some, ap, subst, inl, inr, arith}
use Rattle.std.proofs.lemmas.Bool.{cases_eq}
use Rattle.std.proofs.lemmas.Bool.Decides.{nat_tests}
use Rattle.calls.specs.Call.{Call, call, knows}
use Rattle.calls.proofs.Known.{onward, knows_first, knows_second}
use Rattle.fewest.proofs.Counts.{bit, how_many, many_all}
use Rattle.plans.specs.declared.Square.{Square}
use Rattle.lines.specs.Line.{Lines}
use Rattle.lines.specs.Way.{within, distance}
use Rattle.lines.specs.Row.{row, partner}
use Rattle.lines.specs.Order.{every, comes, sorted}
use Rattle.lines.specs.Square.{IsSquare}
use Rattle.lines.specs.Plan.{round, middle}
use Rattle.lines.proofs.Ways.{within-distance, distance-middle}
use Rattle.lines.proofs.Rows.{every_mono, every-row, sorted-row, times-row, length-row, many_sum, many_same}
use Rattle.lines.proofs.Partners.{partner_is}
use Rattle.lines.proofs.Gathers.{absent, times-absent, Paired}

module _ (n : ℕ) (l : Lines) (mid : ℕ → Bool) where
  -- in a sorted row of huts outside the middle no partner comes later
  paired :
      (rs : List ℕ) → every (λ i. ltb i n && (ltb 0 (distance n l mid i) && leb (distance n l mid i) (n - 1))) rs ≡ true →
      sorted (distance n l mid) rs ≡ true → Paired n l (partner n l mid) rs
  unfolding Paired every sorted
  paired [] each s = tt
  paired (r ∷ rs) each s =
      let p = partner_is n l mid r (grind (arith, nat_tests)) (grind (arith, nat_tests)) in
      let by_one = p.nearer_by_one in
      let later =
      every_mono (comes (distance n l mid) r) (λ s. not (eqb s (partner n l mid r))) rs
      (λ s c.
      elim (cases_eq s (partner n l mid r)) [
        | inl same ↦ let far = ap (distance n l mid) same in absurd (grind (arith, nat_tests))
        | inr other ↦ grind (arith, nat_tests)
      ])
      (grind arith)
      in
      let here : not (eqb r (partner n l mid r)) ≡ true =
      elim (cases_eq r (partner n l mid r)) [
        | inl same ↦ let far = ap (distance n l mid) same in absurd (omega arith)
        | inr other ↦ grind (arith, nat_tests)
      ]
      in
      (grind (arith, nat_tests), p.there, p.neighbour, grind arith, paired rs (grind arith) (grind arith))

  pub row_paired : Paired n l (partner n l mid) (row n l mid)
  row_paired = paired (row n l mid) (every-row n l mid (n - 1)) (sorted-row n l mid (n - 1))

  module _ (joins : (i : ℕ) → i < n → distance n l mid i < n) where
    -- who is not in the row is in the middle
    pub outside_row : (h : ℕ) → h < n → absent h (row n l mid) ≡ true → mid h ≡ true
    outside_row h lh out =
        let none = times-absent h (row n l mid) out in
        let count = times-row n l mid (n - 1) h in
        let far = joins h lh in
        let at = distance-middle n l mid h (omega arith) in
        grind (arith, nat_tests)

    -- the row and the middle have all huts
    pub row-length : 0 < n → length (row n l mid) + how_many mid n ≡ n
    row-length pos =
        let count = length-row n l mid (n - 1) (omega arith) in
        let all : how_many (within n l mid (n - 1)) n ≡ how_many (λ _. true) n =
        many_same (within n l mid (n - 1)) (λ _. true) n (λ i li. let d = within-distance n l mid (n - 1) i (omega arith) in let far = joins i li in grind (arith, nat_tests))
        in
        let size = many_all n in
        omega arith

-- one hut in the middle
pub many_one_hut : (x n : ℕ) → how_many (λ i. eqb x i) n ≡ bit (ltb x n)
unfolding how_many
many_one_hut x zero = grind (arith, nat_tests)
many_one_hut x (suc n) = let before = many_one_hut x n in grind (arith, nat_tests)

-- four huts in the middle
pub many_square : (n : ℕ) (l : Lines) (s : Square) → IsSquare n l s → how_many (middle (Some s)) n ≡ 4
many_square n l s q =
    let is = q.is in
    let t = q.there in
    let ta = t.0 in
    let tb = t.1 in
    let tc = t.2 in
    let td = t.3 in
    let a = many_one_hut s.a n in
    let b = many_one_hut s.b n in
    let c = many_one_hut s.c n in
    let d = many_one_hut s.d n in
    let cd = many_sum (λ i. eqb s.c i) (λ i. eqb s.d i) (λ i. eqb s.c i || eqb s.d i) n (λ i li. grind (arith, nat_tests)) in
    let bcd = many_sum (λ i. eqb s.b i) (λ i. eqb s.c i || eqb s.d i) (λ i. eqb s.b i || (eqb s.c i || eqb s.d i)) n (λ i li. grind (arith, nat_tests)) in
    let abcd = many_sum (λ i. eqb s.a i) (λ i. eqb s.b i || (eqb s.c i || eqb s.d i)) (middle (Some s)) n (λ i li. grind (arith, nat_tests)) in
    grind (arith, nat_tests)

-- what holds of the four huts of a square holds of each in the middle
four_huts : (P : ℕ → Type 0) (s : Square) → P s.a → P s.b → P s.c → P s.d → (i : ℕ) → middle (Some s) i ≡ true → P i
four_huts P s pa pb pc pd i t =
    elim (cases_eq s.a i) [
      | inl e ↦ subst P e pa
      | inr x ↦
          elim (cases_eq s.b i) [
            | inl e ↦ subst P e pb
            | inr y ↦
                elim (cases_eq s.c i) [
                  | inl e ↦ subst P e pc
                  | inr z ↦ let e : s.d ≡ i = grind (arith, nat_tests) in subst P e pd
                ]
          ]
    ]

-- once the four have gone round, each of them knows what any of them knew
pub rounds : (s : Square) (cs : List Call) (i j k : ℕ) → middle (Some s) i ≡ true → middle (Some s) j ≡ true → T (knows cs j k) → T (knows (round s ++ cs) i k)
rounds s cs i j k mi mj t =
    let one : List Call = call s.a s.b ∷ cs in
    let two : List Call = call s.c s.d ∷ one in
    let three : List Call = call s.a s.d ∷ two in
    let Round : ℕ → Type 0 = λ x. T (knows (round s ++ cs) x k) in
    -- news of a or b
    let near : T (knows one s.a k) → T (knows one s.b k) → T (knows (round s ++ cs) i k) =
    λ ka kb.
    let a2 = onward one (call s.c s.d) s.a k ka in
    let b3 = onward two (call s.a s.d) s.b k (onward one (call s.c s.d) s.b k kb) in
    four_huts Round s
    (onward three (call s.b s.c) s.a k (knows_first two (call s.a s.d) s.a k (grind (arith, nat_tests)) a2))
    (knows_first three (call s.b s.c) s.b k (grind (arith, nat_tests)) b3)
    (knows_first three (call s.b s.c) s.c k (grind (arith, nat_tests)) b3)
    (onward three (call s.b s.c) s.d k (knows_first two (call s.a s.d) s.d k (grind (arith, nat_tests)) a2))
    i mi
    in
    -- news of c or d
    let far : T (knows two s.c k) → T (knows two s.d k) → T (knows (round s ++ cs) i k) =
    λ kc kd.
    let c3 = onward two (call s.a s.d) s.c k kc in
    four_huts Round s
    (onward three (call s.b s.c) s.a k (knows_second two (call s.a s.d) s.a k (grind (arith, nat_tests)) kd))
    (knows_second three (call s.b s.c) s.b k (grind (arith, nat_tests)) c3)
    (knows_second three (call s.b s.c) s.c k (grind (arith, nat_tests)) c3)
    (onward three (call s.b s.c) s.d k (knows_second two (call s.a s.d) s.d k (grind (arith, nat_tests)) kd))
    i mi
    in
    four_huts (λ x. T (knows cs x k) → T (knows (round s ++ cs) i k)) s
    (λ u. near (knows_first cs (call s.a s.b) s.a k (grind (arith, nat_tests)) u) (knows_first cs (call s.a s.b) s.b k (grind (arith, nat_tests)) u))
    (λ u. near (knows_second cs (call s.a s.b) s.a k (grind (arith, nat_tests)) u) (knows_second cs (call s.a s.b) s.b k (grind (arith, nat_tests)) u))
    (λ u.
    let c1 = onward cs (call s.a s.b) s.c k u in
    far (knows_first one (call s.c s.d) s.c k (grind (arith, nat_tests)) c1) (knows_first one (call s.c s.d) s.d k (grind (arith, nat_tests)) c1))
    (λ u.
    let d1 = onward cs (call s.a s.b) s.d k u in
    far (knows_second one (call s.c s.d) s.c k (grind (arith, nat_tests)) d1) (knows_second one (call s.c s.d) s.d k (grind (arith, nat_tests)) d1))
    j mj t
