-- The places of a text's fields, record by record.
use Rattle.std.specs.Prelude.{ℕ, ◌<◌, ◌≤◌, Bool, true, false, List, [], ◌∷◌, length, drop, Ok, Err, vec_items, Result}
use Rattle.text.specs.declared.field.Field.{Field}
use Rattle.text.specs.declared.field.Mark.{Mark}
use Rattle.text.specs.declared.field.Mark.TheVariants.{Comma, Line, End}
use Rattle.text.specs.declared.walk.WrongRecord.{WrongRecord}
use Rattle.text.specs.Grammar.{NoField}
use Rattle.text.specs.Taken.{Took}
use Rattle.text.specs.Walks.{Counted, FirstWrong}
use Rattle.script.specs.declared.fields.Place.{Place}
use Rattle.script.specs.declared.fields.FieldList.{FieldList}

-- whether a field with this mark is the last of its record
abbrev pub ends : Mark → Bool
ends Comma = false
ends Line = true
ends End = true

-- the place of a field
abbrev pub place : Field → Place
place f = record { start = f.start; end = f.end; last = ends f.mark }

-- a field begins here: after a comma always, and else where bytes are left
abbrev pub Begins : List ℕ → Bool → ℕ → Type 0
Begins text false at = Unit {0}
Begins text true at = at < length text

-- the fields from `at` on, one after the other, have these places; `ended` says whether a record begins at `at`
pub data Listed (text : List ℕ) : Bool → ℕ → List Place → Type 0 where
  -- the text's end
  done : {at : ℕ} → length text ≤ at → Listed text true at []
  -- no field: the record is wrong
  refused : {ended : Bool} {at : ℕ} → NoField (drop at text) → Listed text ended at []
  next : {ended : Bool} {at after : ℕ} {f : Field} {ps : List Place} → Begins text ended at → Took text at f after → Listed text (ends f.mark) after ps → Listed text ended at (place f ∷ ps)

-- the text has so many records, and its fields these places; or this is its first wrong record
abbrev pub Told : List ℕ → Result FieldList WrongRecord → Type 0
Told text (Ok list) = Counted text list.records × Listed text true 0 (vec_items list.places)
Told text (Err wrong) = FirstWrong text wrong
