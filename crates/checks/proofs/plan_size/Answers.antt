use Rattle.checks.proofs.Answers.{planned_size}
use Rattle.checks.proofs.plan_size.Goals as goal

pub returns : goal.returns
returns c =
    let h = c.in_ok-plan.ensures.answers in
    (h.0, rw c.len.ensures (planned_size c.args.n c.args.lines.now c.in_ok-plan.plan h.1))
