-- How a set is printed.
use Rattle.std.specs.Prelude.{ℕ, zero, suc, Bool, true, false, cond, List, [], ◌∷◌, ◌++◌, decimal, ◌==◌}
use Rattle.terms.specs.Sets.{bit}

-- whether some number below n is a member of w
abbrev pub some_below : ℕ → ℕ → Bool
some_below zero w = false
some_below (suc n) w = cond (bit w n == 1) true (some_below n w)

-- a space, where a member is printed before
abbrev pub gap : Bool → List ℕ
gap true = 32 ∷ []
gap false = []

-- the members below n, ascending, with a space between them
abbrev pub listed : ℕ → ℕ → List ℕ
listed zero w = []
listed (suc n) w = cond (bit w n == 1) (listed n w ++ (gap (some_below n w) ++ decimal n)) (listed n w)

-- the whole set, in braces
unfoldable pub set_text : ℕ → List ℕ
set_text w = (123 ∷ listed 64 w) ++ (125 ∷ [])
