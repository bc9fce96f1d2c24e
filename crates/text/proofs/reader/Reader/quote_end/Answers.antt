use Rattle.std.proofs.Common.{rules}
use Rattle.text.proofs.Marks.{closes}
use Rattle.text.proofs.reader.Reader.quote_end.Goals as goal
use Rattle.text.proofs.reader.Reader.quote_end.Goals.{in_default-rest-via-then-rest-lt2, in_default-rest-via-else-rest-lt2+in_default-1}

pub returns-in_default-rest : goal.returns-in_default-rest
returns-in_default-rest c = closes _ _ _ c.run.invariant.0 (search rules) (search rules) (elim c.in_default-rest.branch [
  | in_default-rest-via-then-rest-lt2 w ↦ λ a b. search rules
  | in_default-rest-via-else-rest-lt2+in_default-1 w ↦ λ a b. search rules
])
