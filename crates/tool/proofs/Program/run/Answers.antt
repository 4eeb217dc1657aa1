use Rattle.std.proofs.Common.{◌⊎◌, inl, inr, refl, Ok, Err, Result, OnErr}
use Rattle.std.specs.Fn.{FnOnceReturnsAt}
use Rattle.tool.proofs.Program.run.Goals as goal

-- a text came of some words, or the status is 1
ended : {W T E : Type 0} (Q : Type 0) (P : W → Result T E → Type 0) (w : W) (r : Result T E) → P w r → OnErr r Q → Q ⊎ ((v : W) × (x : T) × P v (Ok x))
ended Q P w (Ok x) p h = inr (w, x, p)
ended Q P w (Err e) p h = inl h

pub returns : goal.returns
returns g c =
    let P = FnOnceReturnsAt g.F.FnOnce c.args.answer in
    record { status = ended _ P c.deref.result.now c.answer-answer.result (c.deref.result, c.answer-answer.ensures, refl) c.finish.ensures.none }
