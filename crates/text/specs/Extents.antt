-- A record that was read as far as it goes, its fields kept in slots.
use Rattle.std.specs.Prelude.{◌≡◌, ℕ, ◌≤◌, List, length}
use Rattle.text.specs.declared.field.Field.{Field}
use Rattle.text.specs.declared.field.TextFault.{TextFault}
use Rattle.text.specs.declared.record.Extent.{Extent}
use Rattle.text.specs.Taken.{TookRecord, overlay}
use Rattle.text.specs.Faults.{Broken}

-- the record at `from` has this extent, and its fields are put over the slots
pub record ReadRecord (text : List ℕ) (from : ℕ) (old new : List Field) (x : Extent) : Type 0 where
  pub fields : List Field
  pub took : TookRecord text from fields x.end x.next
  pub within : x.next ≤ length text
  pub counted : x.count ≡ length fields
  pub laid : new ≡ overlay fields old

-- the record at `from` is broken, and the fields before the wrong one are put over the slots
pub record BrokenRecord (text : List ℕ) (from : ℕ) (old new : List Field) (fault : TextFault) : Type 0 where
  pub fields : List Field
  pub broken : Broken text from fields fault
  pub laid : new ≡ overlay fields old
