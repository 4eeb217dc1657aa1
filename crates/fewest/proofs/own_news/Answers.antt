use Rattle.fewest.proofs.Moments.{own_news}
use Rattle.fewest.proofs.own_news.Goals as goal

pub returns : goal.returns
returns c = own_news
