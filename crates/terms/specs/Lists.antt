-- What a list in a table of its own has.
use Rattle.std.specs.Prelude.{ℕ, List, take}
use Rattle.terms.specs.declared.short_list.ShortList.{ShortList}

-- its items, in order
unfoldable pub listed : {T : Type 0} {N : ℕ} → ShortList T N → List T
listed l = take l.count l.table
