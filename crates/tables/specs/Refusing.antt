-- The numbers of the refusals of a table's records.
use Rattle.std.specs.Prelude.{[]}
use Rattle.terms.specs.Refusals.{Refusal, refusal}
use Rattle.tables.specs.declared.RecordFault.{RecordFault}
use Rattle.tables.specs.declared.RecordFault.TheVariants.{Malformed, NotANumber}

-- number and carried values of each fault
abbrev pub shown : RecordFault → Refusal
shown (Malformed fault) = refusal 33 []
shown NotANumber = refusal 34 []
