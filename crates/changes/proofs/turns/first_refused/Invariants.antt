use Rattle.std.proofs.Common.{◌≡◌, ℕ, ◌<◌, None}
use Rattle.changes.specs.Turns.{in_turn}
use Rattle.changes.proofs.turns.first_refused.Given as goal

abbrev pub invariant-loop-i : goal.invariant-loop-i
invariant-loop-i g l = (j : ℕ) → j < l.i → in_turn (g.R.Register.model l.register).rows l.changes j ≡ None
