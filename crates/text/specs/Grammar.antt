-- The grammar of RFC 4180 over the bytes of a text: fields, records, and the reading of a whole text.
use Rattle.std.specs.Prelude.{◌≡◌, ℕ, Bool, true, false, cond, List, [], ◌∷◌, ◌++◌, length, ◌==◌, ◌≢◌}
use Rattle.text.specs.declared.field.Mark.{Mark}
use Rattle.text.specs.declared.field.Mark.TheVariants.{Comma, Line, End}

-- a byte that an unquoted field may hold: no comma, quote, CR or LF
abbrev pub Plain : ℕ → Type 0
Plain b = (b ≢ 44) × (b ≢ 34) × (b ≢ 13) × (b ≢ 10)

-- all of these bytes are plain
abbrev pub AllPlain : List ℕ → Type 0
AllPlain [] = Unit {0}
AllPlain (b ∷ bs) = Plain b × AllPlain bs

-- the content with each quote doubled
abbrev pub escape : List ℕ → List ℕ
escape [] = []
escape (b ∷ bs) = cond (b == 34) (34 ∷ 34 ∷ escape bs) (b ∷ escape bs)

-- what stands between a field's marks for this content, quotes taken off
abbrev pub body : Bool → List ℕ → List ℕ
body false c = c
body true c = escape c

-- the same with the quotes
abbrev pub written : Bool → List ℕ → List ℕ
written false c = c
written true c = 34 ∷ (escape c ++ 34 ∷ [])

-- an unquoted field holds plain bytes alone; a quoted one any
abbrev pub Proper : Bool → List ℕ → Type 0
Proper false c = AllPlain c
Proper true c = Unit {0}

-- the bytes of a mark: what ends a field
abbrev pub sign : Mark → List ℕ
sign Comma = 44 ∷ []
sign Line = 13 ∷ 10 ∷ []
sign End = []

-- only the text's end ends a field with no byte
abbrev pub Ends : Mark → List ℕ → Type 0
Ends Comma rest = Unit {0}
Ends Line rest = Unit {0}
Ends End rest = rest ≡ []

-- s begins with a field of this content, quoted or not, then its mark; rest is what follows
pub record Fielded (s : List ℕ) (quoted : Bool) (content : List ℕ) (mark : Mark) (rest : List ℕ) : Type 0 where
  pub proper : Proper quoted content
  pub split : s ≡ written quoted content ++ (sign mark ++ rest)
  pub ends : Ends mark rest

-- no field begins here
abbrev pub NoField : List ℕ → Type 0
NoField s = (quoted : Bool) (content : List ℕ) (mark : Mark) (rest : List ℕ) → Fielded s quoted content mark rest → ⊥

-- s begins with a record whose fields have these contents, one or more, a comma after each but the last; rest is what follows
pub data Recorded : List ℕ → List (List ℕ) → List ℕ → Type 0 where
  last : {s c rest : List ℕ} {q : Bool} {mark : Mark} → Fielded s q c mark rest → (mark ≢ Comma) → Recorded s (c ∷ []) rest
  more : {s c mid rest : List ℕ} {q : Bool} {cs : List (List ℕ)} → Fielded s q c Comma mid → Recorded mid cs rest → Recorded s (c ∷ cs) rest

-- no record begins here
abbrev pub NoRecord : List ℕ → Type 0
NoRecord s = (cs : List (List ℕ)) (rest : List ℕ) → Recorded s cs rest → ⊥

-- no record of this number of fields begins here
abbrev pub NoRecordOf : ℕ → List ℕ → Type 0
NoRecordOf columns s = (cs : List (List ℕ)) (rest : List ℕ) → length cs ≡ columns → Recorded s cs rest → ⊥

-- s begins with these records, one after the other, each where bytes are left; rest is what follows
pub data ReadsTo : List ℕ → List (List (List ℕ)) → List ℕ → Type 0 where
  none : {s : List ℕ} → ReadsTo s [] s
  next : {s mid rest : List ℕ} {cs : List (List ℕ)} {rs : List (List (List ℕ))} → (s ≢ []) → Recorded s cs mid → ReadsTo mid rs rest → ReadsTo s (cs ∷ rs) rest

-- the whole text s has these records, each the list of its fields' contents
abbrev pub Reading : List ℕ → List (List (List ℕ)) → Type 0
Reading s rs = ReadsTo s rs []
