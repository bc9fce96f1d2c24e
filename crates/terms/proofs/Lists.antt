-- How long a list in a table of its own is. Assumes nothing.
use Rattle.std.proofs.Common.{◌≡◌, ℕ, ◌≤◌, length, arith, length-take}
use Rattle.terms.specs.Lists.{listed}
use Rattle.terms.specs.declared.short_list.ShortList.{ShortList}

pub length_listed : {T : Type 0} {N : ℕ} (l : ShortList T N) → length (listed l) ≡ l.count
unfolding listed
length_listed l = omega (arith, length-take l.count l.table, l.sized, l.within)

pub listed_within : {T : Type 0} {N : ℕ} (l : ShortList T N) → length (listed l) ≤ N
listed_within l = omega (arith, length_listed l, l.within)
