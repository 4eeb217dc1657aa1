use Rattle.knowledge.proofs.Rows.{stands_join}
use Rattle.knowledge.proofs.join.Goals as goal

pub returns : goal.returns
returns c = λ n cs before. stands_join n c.args.rows.now cs c.args.a c.args.e c.union-both.result c.requires.caller c.requires.called before c.union-both.ensures
