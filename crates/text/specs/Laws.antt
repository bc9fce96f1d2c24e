-- The laws of reading that hold of every text.
use Rattle.std.specs.Prelude.{◌≡◌, ℕ, Bool, List}
use Rattle.text.specs.declared.field.Field.{Field}
use Rattle.text.specs.declared.field.TextFault.{TextFault}
use Rattle.text.specs.Grammar.{body, Reading}
use Rattle.text.specs.Numbers.{Number}
use Rattle.text.specs.Taken.{Took}
use Rattle.text.specs.Faults.{Wrong, Cause}

-- a text has at most one reading
abbrev pub Unique : Type 0
Unique = (s : List ℕ) (rs rs' : List (List (List ℕ))) → Reading s rs → Reading s rs' → rs ≡ rs'

-- the same bytes at the same place, quoted alike, with the same mark
pub record SameField (f g : Field) : Type 0 where
  pub bytes : f.bytes.now ≡ g.bytes.now
  pub start : f.start ≡ g.start
  pub end : f.end ≡ g.end
  pub quoted : f.quoted ≡ g.quoted
  pub mark : f.mark ≡ g.mark

-- at most one field begins at a place
abbrev pub OneField : Type 0
OneField = (s : List ℕ) (at : ℕ) (f g : Field) (next next' : ℕ) → Took s at f next → Took s at g next' → SameField f g × (next ≡ next')

-- a field is wrong for one cause at one place
abbrev pub OneFault : Type 0
OneFault = (s : List ℕ) (at : ℕ) (e e' : TextFault) → Wrong s at e → Wrong s at e' → e ≡ e'

-- a record is refused for one cause at one place
abbrev pub OneCause : Type 0
OneCause = (s : List ℕ) (columns at : ℕ) (fs fs' : List Field) (e e' : TextFault) → Cause s columns at fs e → Cause s columns at fs' e' → e ≡ e'

-- a field's bytes write the number that its content writes, quoted or not
abbrev pub SameNumber : Type 0
SameNumber = (limit : ℕ) (q : Bool) (c : List ℕ) (n : ℕ) → (Number limit (body q c) n → Number limit c n) × (Number limit c n → Number limit (body q c) n)
