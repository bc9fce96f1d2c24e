-- The laws of assignment tables in text.
use Rattle.std.specs.Prelude.{◌≡◌, ℕ, ◌+◌, ◌^◌, ◌<◌, ◌≤◌, ◌⊎◌, ◌↔◌, List, [], ◌∷◌, ◌++◌, length}
use Rattle.register.specs.Pairs.{Has, with_pair}
use Rattle.tables.specs.Listing.{pair_list, text_of, table_text}
use Rattle.tables.specs.Records.{PairRecords, Begins}

-- the pair stands in the list
abbrev pub Listed : ℕ → ℕ → List (ℕ × ℕ) → Type 0
Listed u r [] = ⊥
Listed u r (x ∷ xs) = ((x.0 ≡ u) × (x.1 ≡ r)) ⊎ Listed u r xs

-- x stands before y: a lower user, or the same user and a lower role
abbrev pub Before : ℕ × ℕ → ℕ × ℕ → Type 0
Before x y = (x.0 < y.0) ⊎ ((x.0 ≡ y.0) × (x.1 < y.1))

-- x stands before every pair of the list
abbrev pub BeforeAll : ℕ × ℕ → List (ℕ × ℕ) → Type 0
BeforeAll x [] = Unit {0}
BeforeAll x (y ∷ ys) = Before x y × BeforeAll x ys

-- ascending by user, then role, and so each pair once
abbrev pub Ascending : List (ℕ × ℕ) → Type 0
Ascending [] = Unit {0}
Ascending (x ∷ xs) = BeforeAll x xs × Ascending xs

-- what is written of T is exactly its pairs, of roles 0 to 63, ascending
pub record ListsExactly (t : List ℕ) : Type 0 where
  pub exactly : (u r : ℕ) → r < 64 → Listed u r (pair_list t) ↔ Has t u r
  pub roles : (u r : ℕ) → Listed u r (pair_list t) → r < 64
  pub ascending : Ascending (pair_list t)

-- the same pairs have been read, or those of one reading are the first of the other's
abbrev pub OneReading : Type 0
OneReading = (text : List ℕ) (ps qs : List (ℕ × ℕ)) (rest rest' : List ℕ) → Begins text ps rest → Begins text qs rest'
    → length ps ≡ length qs → (ps ≡ qs) × (rest ≡ rest')

-- a pair of the list has numbers of at most four digits
abbrev pub AllSmall : List (ℕ × ℕ) → Type 0
AllSmall [] = Unit {0}
AllSmall (x ∷ xs) = ((x.0 < 10 ^ 4) × (x.1 < 10 ^ 4)) × AllSmall xs

-- a written table is read back: whichever of its records have been read, the next one is the next pair written, and after the
-- last there is nothing left
pub record ReadBack (ps qs : List (ℕ × ℕ)) (rest : List ℕ) : Type 0 where
  pub left : List (ℕ × ℕ)
  pub split : ps ≡ qs ++ left
  pub onward : PairRecords rest left []

abbrev pub WrittenIsRead : Type 0
WrittenIsRead = (ps : List (ℕ × ℕ)) → AllSmall ps → Begins (text_of ps) ps []
    × ((qs : List (ℕ × ℕ)) (rest : List ℕ) → Begins (text_of ps) qs rest → ReadBack ps qs rest)

-- where a whole text is read as these pairs, writing them in their order takes at most two bytes more
abbrev pub NoLonger : Type 0
NoLonger = (text : List ℕ) (ps : List (ℕ × ℕ)) → Begins text ps [] → length (text_of ps) ≤ length text + 2

-- one pair more in T is one line more in its text
abbrev pub LineMore : Type 0
LineMore = (t : List ℕ) (u r : ℕ) → u < length t → r < 64 → (Has t u r → ⊥)
    → length (table_text (with_pair t u r)) + length (text_of []) ≡ length (table_text t) + length (text_of ((u, r) ∷ []))
