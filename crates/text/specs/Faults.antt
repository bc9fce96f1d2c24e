-- What is wrong with a field or a record, and at which place.
use Rattle.std.specs.Prelude.{◌≡◌, ℕ, ◌+◌, ◌<◌, Bool, true, false, ◌⊎◌, List, [], ◌∷◌, length, drop, slice_index}
use Rattle.text.specs.declared.field.Field.{Field}
use Rattle.text.specs.declared.field.TextFault.{TextFault}
use Rattle.text.specs.declared.field.TextFault.TheVariants.{BareLineEnd, StrayQuote, OpenQuote, AfterQuote, FieldCount}
use Rattle.text.specs.declared.field.Mark.TheVariants.{Comma}
use Rattle.text.specs.Grammar.{Plain, NoField, NoRecord, NoRecordOf}
use Rattle.text.specs.FirstLine.{LineAt}
use Rattle.text.specs.Scans.{Unclosed, Upto}
use Rattle.text.specs.Taken.{Took, TookRecord, overlay}

-- a CR or LF stands at i and no CR LF
abbrev pub Bare : List ℕ → ℕ → Type 0
Bare s i = (i < length s) × ((slice_index s i ≡ 13) ⊎ (slice_index s i ≡ 10)) × (LineAt s i → ⊥)

-- the field that begins at `at` is wrong for this cause at this place
pub data Wrong (s : List ℕ) (at : ℕ) : TextFault → Type 0 where
  bare : {i : ℕ} {q : Bool} {c : List ℕ} → Upto s at i q c → Bare s i → Wrong s at (BareLineEnd i)
  stray : {i : ℕ} {c : List ℕ} → Upto s at i false c → i < length s → slice_index s i ≡ 34 → Wrong s at (StrayQuote i)
  unclosed : at < length s → slice_index s at ≡ 34 → Unclosed s (at + 1) → Wrong s at (OpenQuote (length s))
  extra : {i : ℕ} {c : List ℕ} → Upto s at i true c → i < length s → Plain (slice_index s i) → Wrong s at (AfterQuote i)

-- the record that begins at `at` has these fields, a comma after each, and then one that is wrong
pub data Broken (s : List ℕ) : ℕ → List Field → TextFault → Type 0 where
  here : {at : ℕ} {fault : TextFault} → Wrong s at fault → Broken s at [] fault
  later : {at mid : ℕ} {f : Field} {fs : List Field} {fault : TextFault} → Took s at f mid → f.mark ≡ Comma → Broken s mid fs fault → Broken s at (f ∷ fs) fault

-- the record that begins at `at` has these fields, not as many as there are columns, and its end stands at `end`
pub record Miscounted (s : List ℕ) (columns at : ℕ) (fields : List Field) (end : ℕ) : Type 0 where
  pub next : ℕ
  pub took : TookRecord s at fields end next
  pub other : length fields ≡ columns → ⊥

-- what each fault says of a record of `columns` fields: these were read before the fault
abbrev pub Cause : List ℕ → ℕ → ℕ → List Field → TextFault → Type 0
Cause s columns at fs (BareLineEnd i) = Broken s at fs (BareLineEnd i)
Cause s columns at fs (StrayQuote i) = Broken s at fs (StrayQuote i)
Cause s columns at fs (OpenQuote i) = Broken s at fs (OpenQuote i)
Cause s columns at fs (AfterQuote i) = Broken s at fs (AfterQuote i)
Cause s columns at fs (FieldCount end) = Miscounted s columns at fs end

-- the field at `at` is refused: none begins there, and this is why
pub record FieldRefused (s : List ℕ) (at : ℕ) (fault : TextFault) : Type 0 where
  pub absent : NoField (drop at s)
  pub cause : Wrong s at fault

-- the record at `at` is refused, whatever its number of fields
pub record RecordRefused (s : List ℕ) (at : ℕ) (fault : TextFault) : Type 0 where
  pub absent : NoRecord (drop at s)
  pub fields : List Field
  pub cause : Broken s at fields fault

-- the record at `at` is refused, as many fields expected as there are slots; the slots take the fields before the fault
pub record ColumnsRefused (s : List ℕ) (at : ℕ) (old new : List Field) (fault : TextFault) : Type 0 where
  pub absent : NoRecordOf (length old) (drop at s)
  pub fields : List Field
  pub cause : Cause s (length old) at fields fault
  pub laid : new ≡ overlay fields old
