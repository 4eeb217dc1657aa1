use Rattle.std.specs.Result.{IsErrAnd, MatchResult}
use Rattle.std.proofs.Common.{rules, ◌≡◌, ℕ, List, Ok, Err, Result, String, refl, codes}
use Rattle.std.specs.declared.alloc.Global.{Global}
use Rattle.tool.specs.declared.Failure.{Failure}
use Rattle.tool.specs.declared.Program.{Program}
use Rattle.tool.specs.declared.Request.{Request}
use Rattle.tool.specs.declared.Request.TheVariants.{Help, Version, Words as Plain}
use Rattle.tool.specs.declared.Takes.TheVariants.{Number}
use Rattle.tool.specs.declared.Words.{Words}
use Rattle.tool.specs.Reply as tool
use Rattle.plan.specs.Printed.{AnsweredFirst, IsRetold, Told, Replies}
use Rattle.plan.proofs.answer.Goals as goal

-- what is replied where what is said to the words is right
said :
    (p : Program) (says : Words → Result (String Global) Failure → Type 0) (asked : Result Request Failure) (r : Result (String Global) Failure) →
    tool.SaidTo p says asked r → ((words : Words) → says words r → AnsweredFirst words.first r) → tool.SaidTo p (λ w a. AnsweredFirst w.first a) asked r
said p says (Ok Help) r h k = h
said p says (Ok Version) r h k = h
said p says (Ok (Plain words)) r h k = k words h
said p says (Err f) r h k = h

-- a result of which only the failure is told again
mapped :
    (L : Failure → Failure → Type 0) (r t : Result (String Global) Failure) → MatchResult r (λ s. t ≡ Ok s) (λ f. IsErrAnd t (L f)) → ((f g : Failure) → L f g → IsRetold f g) → Told r t
mapped L (Ok s) t h k = h
mapped L (Err f) (Ok s) h k = absurd h
mapped L (Err f) (Err g) h k = k f g h

replied :
    (p : Program) (says : Words → Result (String Global) Failure → Type 0) (words : List (List ℕ)) (r t : Result (String Global) Failure) → p.name.now ≡ codes "plan" → p.usage.now ≡ codes "usage: plan HUTS" → p.takes ≡ Number →
    tool.Replies p says words r → ((words : Words) → says words r → AnsweredFirst words.first r) → Told r t → Replies words t
replied p says words r t named used e h k told = (p, r, named, used, e, record { asked = h.asked; asks = h.asks; said = said p says h.asked r h.said k }, told)

pub returns : goal.returns
returns c = record { replies = replied _ _ _ c.reply.result _ refl refl refl c.reply.ensures.replies (λ words l. search rules) (mapped _ c.reply.result c.map_err.result c.map_err.ensures.cases (λ f g l. search rules)) }
