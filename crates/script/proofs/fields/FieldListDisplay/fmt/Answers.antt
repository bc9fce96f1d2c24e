use Rattle.std.proofs.Common.{false, sym, refl, ap, ◌∙◌}
use Rattle.script.specs.declared.fields.Place.{Place}
use Rattle.script.specs.Entries.{opening}
use Rattle.script.proofs.Entered.{opens_more, entered_more, entered_all}
use Rattle.script.proofs.fields.FieldListDisplay.fmt.Goals as goal
use Rattle.script.proofs.fields.FieldListDisplay.fmt.Goals.{then-place, else-place}

pub loop-place-preserved : goal.loop-place-preserved
loop-place-preserved g c =
    let ps = c.deref-place-items.result.now in
    let i = c.loop-place.place-index in
    let d : Place = record { start = 0; end = 0; last = false } in
    let inv = c.loop-place.invariant in (
      λ p. entered_more g.W.Write.write_str_gives c.write.new.self c.loop-place.f c.write-in-loop-place.new.self ps i c.loop-place.opening.now d c.loop-place-test.true inv.1 inv.0 (λ q. c.in_ok-write-2.ensures.writes q refl) p,
      elim c.if-place.branch [
        | then-place w ↦ ap (λ r. r.now) w.opening-is ∙ ap opening (sym w.if-place.true ∙ opens_more ps i d c.loop-place-test.true)
        | else-place w ↦ ap (λ r. r.now) w.opening-is ∙ ap opening (sym w.if-place.false ∙ opens_more ps i d c.loop-place-test.true)
      ],
    )

pub returns-clause-writes : goal.returns-clause-writes
returns-clause-writes g c plain ok =
    entered_all g.W.Write.write_str_gives c.args.f.now c.write.new.self c.loop-place.f c.args.self.now.records _ c.deref-place-items.result.now c.loop-place.place-index c.deref-place-items.ensures.value c.loop-place-test.false (λ p. c.in_ok-write.ensures.writes p refl) c.loop-place.invariant.0 plain
