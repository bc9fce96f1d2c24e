-- What a walk over a whole text finds.
use Rattle.std.specs.Prelude.{◌≡◌, ℕ, ◌+◌, ◌<◌, List, length, drop}
use Rattle.text.specs.declared.walk.WrongRecord.{WrongRecord}
use Rattle.text.specs.Grammar.{ReadsTo, Reading}
use Rattle.text.specs.Faults.{RecordRefused}

-- the text has n records
pub record Counted (text : List ℕ) (n : ℕ) : Type 0 where
  pub records : List (List (List ℕ))
  pub reading : Reading text records
  pub count : n ≡ length records

-- the records before this one are right, and it is refused; so the text has no reading
pub record FirstWrong (text : List ℕ) (w : WrongRecord) : Type 0 where
  pub before : List (List (List ℕ))
  pub from : ℕ
  pub reads : ReadsTo text before (drop from text)
  pub count : w.number ≡ length before + 1
  pub left : from < length text
  pub refused : RecordRefused text from w.fault
  pub unread : (records : List (List (List ℕ))) → Reading text records → ⊥
