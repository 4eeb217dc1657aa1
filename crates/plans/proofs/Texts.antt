-- A plan printed line by line. Assumes nothing.
use Rattle.std.proofs.Common.{◌≡◌, ℕ, ◌-◌, ◌/◌, ◌≤◌, List, [], ◌∷◌, ◌++◌, length, get_or, take, drop, vec_items, vec_len, codes, decimal, ◌∙◌, subst₂, append_assoc, arith}
use Rattle.std.proofs.lemmas.List.{take_rest}
use Rattle.std.specs.Fmt.{IsPlainFormatter, HasWritten}
use Rattle.std.specs.declared.fmt.Formatter.{Formatter}
use Rattle.std.proofs.Output.{has_written_append}
use Rattle.plans.specs.declared.Plan.{Plan}
use Rattle.plans.specs.Text.{call_line, call_lines, middle_shown, text_shown, plan_shown}

module _ {W : Type 0} (took : W → List ℕ → W → Type 0) where
  -- the lines of some calls were written, those of the calls left are to come, and together they are the lines of all
  pub record Printed (f : Formatter W) (all left : List ℕ) (g : Formatter W) : Type 0 where
    pub done : List ℕ
    pub whole : done ++ call_lines left ≡ call_lines all
    pub put : IsPlainFormatter f → HasWritten took f done g

  -- one more call is written
  pub printed_more : (f : Formatter W) (all left : List ℕ) (g h : Formatter W) → 2 ≤ length left → Printed f all left g → (IsPlainFormatter g → HasWritten took g (call_line (get_or left 0 0) (get_or left 1 0)) h) → Printed f all (take (length left - 2) (drop 2 left)) h
  printed_more f all [] g h l p more = absurd (omega arith)
  printed_more f all (a ∷ []) g h l p more = absurd (omega arith)
  printed_more f all (a ∷ e ∷ xs) g h l p more =
      rw (take_rest (a ∷ (e ∷ xs)) 2)
      (record {
        done = p.done ++ call_line a e;
        whole = append_assoc p.done (call_line a e) (call_lines xs) ∙ p.whole;
        put = λ plain. has_written_append took f p.done g (call_line a e) h (p.put plain) (more (p.put plain).plain);
      })

  -- three texts written one after the other: the calls, the square, the number of calls
  pub put_plan : (p : Plan) (xs : List ℕ) (n : ℕ) (f g h k : Formatter W) → xs ≡ vec_items p.calls → n ≡ vec_len p.calls → HasWritten took f (call_lines xs) g → (IsPlainFormatter g → HasWritten took g (middle_shown p.square ++ codes "\n") h) → (IsPlainFormatter h → HasWritten took h (decimal (n / 2) ++ codes " calls\n") k) → HasWritten took f (plan_shown p) k
  put_plan p xs n f g h k e l first second third =
      let b = second first.plain in
      subst₂ (λ ys m. HasWritten took f (text_shown ys p.square (m / 2)) k) e l (has_written_append took f _ g _ k first (has_written_append took g _ h _ k b (third b.plain)))
