-- The text of an assignment table: the header, and the pairs ascending by user, then role.
use Rattle.std.specs.Prelude.{ℕ, zero, suc, ◌+◌, cond, List, [], ◌∷◌, ◌++◌, map, codes, ◌==◌}
use Rattle.terms.specs.Sets.{bit}
use Rattle.text_out.specs.Written.{table}

-- the header of an assignment table
abbrev pub header : List ℕ
header = codes "user,role"

-- the pairs of user u with those of the first n roles that are in w, ascending
unfoldable pub own_pairs : ℕ → ℕ → ℕ → List (ℕ × ℕ)
own_pairs u w zero = []
own_pairs u w (suc n) = own_pairs u w n ++ cond (bit w n == 1) ((u, n) ∷ []) []

-- the pairs of the rows, which are those of user u and on, ascending by user, then role
abbrev pub pairs_from : ℕ → List ℕ → List (ℕ × ℕ)
pairs_from u [] = []
pairs_from u (w ∷ t) = own_pairs u w 64 ++ pairs_from (u + 1) t

-- all pairs of T, ascending by user, then role
abbrev pub pair_list : List ℕ → List (ℕ × ℕ)
pair_list t = pairs_from 0 t

-- a pair as a record of two numbers
abbrev pub fields_of : ℕ × ℕ → List ℕ
fields_of x = x.0 ∷ x.1 ∷ []

-- the text of the pairs, in this order
abbrev pub text_of : List (ℕ × ℕ) → List ℕ
text_of ps = table header (map fields_of ps)

-- the text of T
abbrev pub table_text : List ℕ → List ℕ
table_text t = text_of (pair_list t)
