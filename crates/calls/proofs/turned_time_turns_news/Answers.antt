use Rattle.calls.proofs.Known.{turned}
use Rattle.calls.proofs.turned_time_turns_news.Goals as goal

pub returns : goal.returns
returns c = turned
