-- A walk over the fields of a text, one field a step.
use Rattle.std.specs.Prelude.{◌≡◌, ℕ, ◌<◌, Bool, true, false, List, [], ◌∷◌, length, Some, None, Ok, Err, Option, Result}
use Rattle.std.specs.List.{flat_map}
use Rattle.text.specs.declared.field.Field.{Field}
use Rattle.text.specs.declared.field.Mark.{Mark}
use Rattle.text.specs.declared.field.Mark.TheVariants.{Comma, Line, End}
use Rattle.text.specs.declared.field.TextFault.{TextFault}
use Rattle.text.specs.Grammar.{Reading}
use Rattle.text.specs.Taken.{Took, Bodies}
use Rattle.text.specs.Faults.{FieldRefused}

-- whether the record goes on after this mark
abbrev pub goes_on : Mark → Bool
goes_on Comma = true
goes_on Line = false
goes_on End = false

-- a field is due: within a record always, else where bytes are left
abbrev pub Due : List ℕ → ℕ → Bool → Type 0
Due text at inside = inside ≡ false → at < length text

-- one step of a walk that stands at `at`, within a record or not, and where it stands after
abbrev pub Step : List ℕ → ℕ → Bool → Result (Option Field) TextFault → ℕ → Bool → Type 0
Step text at inside (Ok None) next on = (inside ≡ false) × (at ≡ length text) × (next ≡ at) × (on ≡ inside)
Step text at inside (Ok (Some f)) next on = Due text at inside × Took text at f next × (on ≡ goes_on f.mark)
Step text at inside (Err e) next on = Due text at inside × FieldRefused text at e × (next ≡ at) × (on ≡ inside)

-- the steps of a walk from here to its end hand out these fields
pub data Steps (text : List ℕ) : ℕ → Bool → List Field → Type 0 where
  done : Steps text (length text) false []
  field : {at next : ℕ} {inside : Bool} {f : Field} {fs : List Field} → Due text at inside → Took text at f next → Steps text next (goes_on f.mark) fs → Steps text at inside (f ∷ fs)

-- record by record, these fields hold these contents
abbrev pub AllBodies : List (List Field) → List (List (List ℕ)) → Type 0
AllBodies [] [] = Unit {0}
AllBodies [] (cs ∷ css) = ⊥
AllBodies (fs ∷ fss) [] = ⊥
AllBodies (fs ∷ fss) (cs ∷ css) = Bodies fs cs × AllBodies fss css

-- the fields are those of the text's reading, record after record
pub record FieldsOf (text : List ℕ) (fields : List Field) : Type 0 where
  pub records : List (List Field)
  pub order : fields ≡ flat_map (λ r. r) records
  pub contents : List (List (List ℕ))
  pub reading : Reading text contents
  pub bodies : AllBodies records contents

-- a whole walk hands out exactly the fields of the text's reading
abbrev pub WholeWalk : Type 0
WholeWalk = (text : List ℕ) (fields : List Field) → Steps text 0 false fields → FieldsOf text fields
