-- The changes that a draft holds, and when it takes no more.
use Rattle.std.specs.Prelude.{List, [], ◌∷◌, length, Option, nat_le}
use Rattle.terms.specs.Refusals.{Refusal, refusal, when, first_of}
use Rattle.terms.specs.Lists.{listed as items_of}
use Rattle.changes.specs.declared.Change.{Change}
use Rattle.changes.specs.declared.Changes.{Changes}
use Rattle.changes.specs.declared.DraftFault.{DraftFault}
use Rattle.changes.specs.declared.DraftFault.TheVariants.{Full}

-- the changes, in order
abbrev pub listed : Changes → List Change
listed cs = items_of cs.items

-- number and carried values of each fault
abbrev pub shown : DraftFault → Refusal
shown Full = refusal 21 []

-- noting one change more: 16 changes are held
abbrev pub note_rows : List Change → Option Refusal
note_rows cs = first_of (when (nat_le 16 (length cs)) (refusal 21 []) ∷ [])
