use Rattle.std.proofs.Common.{[], ◌∷◌}
use Rattle.std.proofs.lemmas.Slice.Eq.{strip_suffix_is}
use Rattle.std.proofs.lemmas.Bool.Decides.{Decides-eqb}
use Rattle.script.proofs.Cutting.{bare_line}
use Rattle.script.proofs.lines.without_cr.Goals as goal

pub returns : goal.returns
returns c =
    let line = c.args.line in
    rw c.unwrap_or.ensures (bare_line line c.strip_suffix.result (strip_suffix_is Decides-eqb line.now (13 ∷ []) c.strip_suffix.result c.strip_suffix.ensures.cases))
