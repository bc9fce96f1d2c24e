use Rattle.std.proofs.Common.{◌+◌, ◌*◌, ◌^◌}
use Rattle.judge.proofs.sharing.Search.+share.Given as goal

abbrev pub decreases-share : goal.decreases-share
decreases-share l = l.n * 2 ^ 64 + l.open
