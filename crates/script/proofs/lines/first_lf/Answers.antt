use Rattle.std.proofs.Common.{◌≡◌, rules, tests, ◌≢◌}
use Rattle.std.proofs.lemmas.Iterator.{IsFirst-from_position, YieldsList-from_slice}
use Rattle.script.proofs.Cutting.{first_found}
use Rattle.script.proofs.lines.first_lf.Goals as goal

pub returns : goal.returns
returns c =
    let script = c.args.script.now in
    first_found script c.position.result (IsFirst-from_position _ _ c.position.result (λ b. b ≡ 10) (λ b. b ≢ 10) c.position.ensures.ran (YieldsList-from_slice script cc) (λ x q k. search (rules, tests)) (λ x q k. search (rules, tests)))
