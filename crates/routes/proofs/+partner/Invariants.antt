use Rattle.std.proofs.Common.{get_or}
use Rattle.routes.proofs.+partner.Given as goal

-- the distance falls
abbrev pub decreases-partner : goal.decreases-partner
decreases-partner l = get_or l.distances.now l.best 0
