use Rattle.std.proofs.Common.{[], ◌∷◌}
use Rattle.std.proofs.lemmas.Slice.Eq.{strip_prefix_is, strip_suffix_is}
use Rattle.std.proofs.lemmas.Option.{MatchOption-at_some}
use Rattle.script.proofs.Spelling.{opened_inside}
use Rattle.script.proofs.literals.inside.Goals as goal
use Rattle.std.proofs.lemmas.Bool.Decides.{Decides-eqb}

pub returns : goal.returns
returns c =
    let typed = c.args.typed.now in
    let told = strip_prefix_is Decides-eqb typed (34 ∷ []) c.strip_prefix.result c.strip_prefix.ensures.cases in
    let opened = c.in_ok-strip_prefix.field-0 in
    opened_inside typed opened.now c.strip_suffix.result (MatchOption-at_some _ _ opened c.in_ok-strip_prefix.was told) (strip_suffix_is Decides-eqb opened.now (34 ∷ []) c.strip_suffix.result c.strip_suffix.ensures.cases)
