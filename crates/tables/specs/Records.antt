-- The records of an assignment table, as a text is read.
use Rattle.std.specs.Prelude.{◌≡◌, ℕ, ◌<◌, ◌≤◌, ◌⊎◌, List, [], ◌∷◌, length, drop, ◌≢◌}
use Rattle.text.specs.Grammar.{Recorded, NoRecordOf}
use Rattle.text.specs.Numbers.{Number, NoNumber}
use Rattle.text.specs.FirstLine.{Headed}
use Rattle.text.specs.Faults.{Cause}
use Rattle.text.specs.declared.field.Field.{Field}
use Rattle.text.specs.declared.field.TextFault.{TextFault}
use Rattle.tables.specs.Listing.{header}
use Rattle.tables.specs.declared.RecordFault.{RecordFault}
use Rattle.tables.specs.declared.RecordFault.TheVariants.{Malformed, NotANumber}

-- the most digits of a number in a table
abbrev pub digits : ℕ
digits = 4

-- s begins with a record of two fields that write the numbers u and r; rest is what follows
pub record PairRecord (s : List ℕ) (u r : ℕ) (rest : List ℕ) : Type 0 where
  pub first : List ℕ
  pub second : List ℕ
  pub recorded : Recorded s (first ∷ second ∷ []) rest
  pub user : Number digits first u
  pub role : Number digits second r

-- s begins with records that write these pairs, one after the other, each where bytes are left; rest is what follows
pub data PairRecords : List ℕ → List (ℕ × ℕ) → List ℕ → Type 0 where
  none : {s : List ℕ} → PairRecords s [] s
  next : {s mid rest : List ℕ} {u r : ℕ} {ps : List (ℕ × ℕ)} → (s ≢ []) → PairRecord s u r mid → PairRecords mid ps rest → PairRecords s ((u, r) ∷ ps) rest

-- the text has the header, and its first records write these pairs; rest is what follows them
pub record Begins (text : List ℕ) (ps : List (ℕ × ℕ)) (rest : List ℕ) : Type 0 where
  pub start : ℕ
  pub headed : Headed header text start
  pub records : PairRecords (drop start text) ps rest

-- the record that s begins with is none of two fields: here is the text that s ends, the place where s begins in it, and the cause
pub record NotTwoFields (text : List ℕ) (at : ℕ) (fault : TextFault) : Type 0 where
  pub absent : NoRecordOf 2 (drop at text)
  pub fields : List Field
  pub cause : Cause text 2 at fields fault

-- the record that s begins with has two fields, and one of them writes no number
pub record NotNumbers (s : List ℕ) : Type 0 where
  pub first : List ℕ
  pub second : List ℕ
  pub rest : List ℕ
  pub recorded : Recorded s (first ∷ second ∷ []) rest
  pub none : NoNumber digits first ⊎ NoNumber digits second

-- what is wrong with the record that begins at `at`
abbrev pub WrongRecord : List ℕ → ℕ → RecordFault → Type 0
WrongRecord text at (Malformed fault) = NotTwoFields text at fault
WrongRecord text at NotANumber = NotNumbers (drop at text)

-- the record that begins at `at` writes this pair, and what follows it stands at next
pub record TakesPair (text : List ℕ) (at user role next : ℕ) : Type 0 where
  pub left : at < length text
  pub pair : PairRecord (drop at text) user role (drop next text)
  pub onward : at < next
  pub within : next ≤ length text

-- the record that begins at `at` is wrong, and the reader stays there
pub record RefusesRecord (text : List ℕ) (at : ℕ) (fault : RecordFault) (next : ℕ) : Type 0 where
  pub left : at < length text
  pub wrong : WrongRecord text at fault
  pub stays : next ≡ at
