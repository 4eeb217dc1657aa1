use Rattle.lines.proofs.Laws.{lines_sound}
use Rattle.lines.proofs.lines_are_sound.Goals as goal

pub returns : goal.returns
returns c = lines_sound
