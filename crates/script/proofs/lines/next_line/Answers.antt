use Rattle.std.proofs.Common.{◌+◌, sym, subst}
use Rattle.std.proofs.lemmas.List.{take_rest}
use Rattle.script.specs.Lines.{FirstLine}
use Rattle.script.proofs.Cutting.{line_before, last_line}
use Rattle.script.proofs.lines.next_line.Goals as goal

pub returns-in-Some-clause-cut : goal.returns-in-Some-clause-cut
returns-in-Some-clause-cut c =
    let s = c.args.script.now in
    let i = c.in-Some.i in
    subst (λ t. FirstLine s c.without_cr.result.now t) (sym (take_rest s (i + 1))) (line_before s _ i c.in-Some.ensures c.without_cr.ensures)

pub returns-in-None-clause-cut : goal.returns-in-None-clause-cut
returns-in-None-clause-cut c = last_line c.args.script.now c.in-None.ensures
