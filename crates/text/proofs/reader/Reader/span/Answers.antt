use Rattle.std.proofs.Common.{◌≡◌, ◌<◌, length, get_or, arith}
use Rattle.std.proofs.lemmas.Grind.{common_steps}
use Rattle.text.specs.Faults.Wrong.{unclosed}
use Rattle.text.proofs.reader.Reader.span.Goals as goal

pub returns-in-None : goal.returns-in-None
returns-in-None c =
    let r = c.args.self.now in
    let l : r.at < length r.text.now = grind (arith, common_steps) in
    let q : get_or r.text.now r.at 0 ≡ 34 = grind (arith, common_steps) in
    unclosed l q c.in-None.ensures
