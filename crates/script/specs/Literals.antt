-- What a text in quotes stands for.
use Rattle.std.specs.Prelude.{◌≡◌, ℕ, ◌+◌, ◌*◌, ◌≤◌, ◌⊎◌, List, [], ◌∷◌, ◌++◌, length, drop, ◌≢◌, slice_index}

-- the lowercase hex digit c has the value x
abbrev pub HexDigit : ℕ → ℕ → Type 0
HexDigit c x = ((48 ≤ c) × (c ≤ 57) × (c ≡ x + 48)) ⊎ ((97 ≤ c) × (c ≤ 102) × (c ≡ x + 87))

-- after a backslash, c stands for b: r, n and t for CR, LF and tab, a quote and a backslash for themselves
abbrev pub ShortEscape : ℕ → ℕ → Type 0
ShortEscape c b =
    ((c ≡ 114) × (b ≡ 13)) ⊎ (((c ≡ 110) × (b ≡ 10)) ⊎ (((c ≡ 116) × (b ≡ 9)) ⊎ (((c ≡ 34) × (b ≡ 34)) ⊎ ((c ≡ 92) × (b ≡ 92)))))

-- the byte b stands for itself: it prints, and is neither a quote nor a backslash
abbrev pub Prints : ℕ → Type 0
Prints b = (32 ≤ b) × (b ≤ 126) × (b ≢ 34) × (b ≢ 92)

-- At `at` the byte b is typed, and next is the place after it. Past the end of the text slice_index reads zeros, which nothing is typed with.
-- b as it is
abbrev pub PlainAt : List ℕ → ℕ → ℕ → ℕ → Type 0
PlainAt typed at b next = Prints b × (slice_index typed at ≡ b) × (next ≡ at + 1)

-- a backslash and a letter
abbrev pub ShortAt : List ℕ → ℕ → ℕ → ℕ → Type 0
ShortAt typed at b next = (slice_index typed at ≡ 92) × ShortEscape (slice_index typed (at + 1)) b × (next ≡ at + 2)

-- a backslash, an x, and two hex digits
abbrev pub HexAt : List ℕ → ℕ → ℕ → ℕ → Type 0
HexAt typed at b next =
    (slice_index typed at ≡ 92) × (slice_index typed (at + 1) ≡ 120) × ((x : ℕ) × (y : ℕ) × HexDigit (slice_index typed (at + 2)) x × HexDigit (slice_index typed (at + 3)) y × (b ≡ x * 16 + y)) × (next ≡ at + 4)

-- one of the three
abbrev pub UnitAt : List ℕ → ℕ → ℕ → ℕ → Type 0
UnitAt typed at b next = PlainAt typed at b next ⊎ (ShortAt typed at b next ⊎ HexAt typed at b next)

-- typed begins with the byte b, and rest is what follows it
abbrev pub FirstUnit : List ℕ → ℕ → List ℕ → Type 0
FirstUnit typed b rest = (next : ℕ) × UnitAt typed 0 b next × (rest ≡ drop next typed)

-- from `at` to its end the typed text stands for these bytes
pub data Spells (typed : List ℕ) : ℕ → List ℕ → Type 0 where
  none : {at : ℕ} → length typed ≤ at → Spells typed at []
  more : {at b next : ℕ} {bytes : List ℕ} → UnitAt typed at b next → Spells typed next bytes → Spells typed at (b ∷ bytes)

-- the typed text is a quote, what is inside, and a quote
abbrev pub Quoted : List ℕ → List ℕ → Type 0
Quoted typed inner = typed ≡ 34 ∷ (inner ++ (34 ∷ []))

-- the text is typed in quotes, and stands for these bytes
pub record Literal (typed bytes : List ℕ) : Type 0 where
  pub inner : List ℕ
  pub quoted : Quoted typed inner
  pub spells : Spells inner 0 bytes
