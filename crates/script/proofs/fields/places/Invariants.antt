use Rattle.std.proofs.Common.{◌≡◌, ◌+◌, ◌-◌, ◌*◌, true, cond, not, List, ◌++◌, length, vec_items}
use Rattle.script.specs.declared.fields.Place.{Place}
use Rattle.script.specs.Listing.{Listed}
use Rattle.script.proofs.fields.places.Given as goal

-- the places from here on go after those so far
abbrev pub invariant-loop-field : goal.invariant-loop-field
invariant-loop-field l =
    (l.walk.reader.text.now ≡ l.text)
    × ((ps : List Place) → Listed l.text (not l.walk.inside) l.walk.reader.at ps → Listed l.text true 0 (vec_items l.places ++ ps))

abbrev pub decreases-loop-field : goal.decreases-loop-field
decreases-loop-field l = 2 * (length l.walk.reader.text.now - l.walk.reader.at) + cond l.walk.inside 1 0
