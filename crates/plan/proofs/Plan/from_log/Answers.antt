use Rattle.std.proofs.Common.{◌<◌, length, get_or, Ok, refl, ◌∙◌, subst, arith}
use Rattle.std.proofs.lemmas.List.{take_all}
use Rattle.plan.specs.History.{accepted, Means}
use Rattle.plan.specs.declared.Addition.TheVariants.{Senior}
use Rattle.plan.specs.declared.Entry.{Entry}
use Rattle.plan.proofs.Histories as histories
use Rattle.plan.proofs.Plan.from_log.Goals as goal

pub loop-entry-preserved : goal.loop-entry-preserved
loop-entry-preserved c =
    let log = c.loop-entry.log in
    let i = c.loop-entry.entry-index in
    let p = c.loop-entry.plan in
    let inv = c.loop-entry.invariant in
    let told = c.add-entry.ensures in
    let d : Entry = record { addition = Senior 0 0; answer = Ok tt } in
    let x : Entry = record { addition = (get_or log i d).addition; answer = c.add-entry.result } in
    let low : i < length log = omega arith in (
      histories.turn_additions log i x low p inv.2 d refl ∙ inv.0,
      histories.turn_answered log i x low p inv.2 inv.1 told.answer,
      histories.turn_means log i x low p inv.2 c.add-entry.new.self told.refused told.added,
    )

pub returns : goal.returns
returns c =
    let inv = c.loop-entry.invariant in
    let l = c.loop-entry.auto.log in
    let all = take_all c.loop-entry.entry-index c.loop-entry.log (omega arith) in
    record {
      additions = inv.0;
      answers = λ n h. inv.1 n (omega arith);
      means = subst (λ es. Means (accepted es) c.loop-entry.plan) all inv.2;
    }
