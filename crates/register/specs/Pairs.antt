-- A set of pairs (user, role) as a list of rows: the row of user u is the set of his roles, a word.
use Rattle.std.specs.Prelude.{ℕ, ◌^◌, Bool, cond, List, length, replicate, sum_by, ◌==◌, bit_or, bit_xor, count_ones, nat_lt, slice_index, slice_set}
use Rattle.terms.specs.Sets.{bit, In}

-- the user's roles; none for a user past the rows
abbrev pub row : List ℕ → ℕ → ℕ
row t u = slice_index t u

-- the pair is in the set
abbrev pub Has : List ℕ → ℕ → ℕ → Type 0
Has t u r = In r (row t u)

-- whether the pair is in the set
abbrev pub has : List ℕ → ℕ → ℕ → Bool
has t u r = bit (row t u) r == 1

-- the number of pairs
abbrev pub pairs : List ℕ → ℕ
pairs t = sum_by count_ones t

-- the number of rows that have the role
abbrev pub having : ℕ → List ℕ → ℕ
having r t = sum_by (λ w. bit w r) t

-- the number of a role's members; a role above 63 has none
abbrev pub members : List ℕ → ℕ → ℕ
members t r = cond (nat_lt r 64) (having r t) 0

-- the set with the pair
abbrev pub with_pair : List ℕ → ℕ → ℕ → List ℕ
with_pair t u r = slice_set t u (bit_or (row t u) (2 ^ r))

-- the set without the pair, where it has it
abbrev pub less_pair : List ℕ → ℕ → ℕ → List ℕ
less_pair t u r = slice_set t u (bit_xor (row t u) (2 ^ r))

-- as many rows, all empty
abbrev pub emptied : List ℕ → List ℕ
emptied t = replicate (length t) 0
