-- How the places of a text's fields are printed.
use Rattle.std.specs.Prelude.{ℕ, Bool, true, false, List, [], ◌∷◌, ◌++◌, codes, decimal}
use Rattle.script.specs.declared.fields.Place.{Place}

-- before a field: a parenthesis opens where it is the first of its record
abbrev pub opening : Bool → List ℕ
opening true = codes " ("
opening false = codes " "

-- after a field: a parenthesis closes where it is the last of its record
abbrev pub closing : Bool → List ℕ
closing true = codes ")"
closing false = []

-- one place: where it starts and where it ends, and what closes after it
abbrev pub place_text : Place → List ℕ
place_text p = decimal p.start ++ (codes "-" ++ (decimal p.end ++ closing p.last))

-- these places, one after the other; `first` says whether the first of them begins a record
abbrev pub entries : Bool → List Place → List ℕ
entries first [] = []
entries first (p ∷ ps) = (opening first ++ place_text p) ++ entries p.last ps

-- the number of records, and all places
unfoldable pub list_text : ℕ → List Place → List ℕ
list_text records ps = (decimal records ++ codes " records") ++ entries true ps
