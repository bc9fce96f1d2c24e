-- What the reader hands out: fields with their places, and records of fields.
use Rattle.std.specs.Prelude.{◌≡◌, ℕ, ◌+◌, ◌-◌, List, [], ◌∷◌, length, take, drop, ◌≢◌}
use Rattle.text.specs.declared.field.Field.{Field}
use Rattle.text.specs.declared.field.Mark.TheVariants.{Comma}
use Rattle.text.specs.Grammar.{Fielded, body, Recorded}
use Rattle.text.specs.Scans.{past, MarkTo}

-- the field f begins at `at`, and what follows its mark at next
pub record Took (text : List ℕ) (at : ℕ) (f : Field) (next : ℕ) : Type 0 where
  pub content : List ℕ
  pub fielded : Fielded (drop at text) f.quoted content f.mark (drop next text)
  pub bytes : f.bytes.now ≡ body f.quoted content
  pub place : f.bytes.now ≡ take (f.end - f.start) (drop f.start text)
  pub start : f.start ≡ past f.quoted at
  pub end : f.end ≡ f.start + length f.bytes.now
  pub closed : MarkTo text (past f.quoted f.end) f.mark next

-- the record that begins at `at` has these fields; its end stands at `end`, and what follows it at next
pub data TookRecord (text : List ℕ) : ℕ → List Field → ℕ → ℕ → Type 0 where
  last : {at next : ℕ} {f : Field} → Took text at f next → (f.mark ≢ Comma) → TookRecord text at (f ∷ []) (past f.quoted f.end) next
  more : {at mid end next : ℕ} {f : Field} {fs : List Field} → Took text at f mid → f.mark ≡ Comma → TookRecord text mid fs end next → TookRecord text at (f ∷ fs) end next

-- these slots with the fields put over the first of them, as far as the slots go
abbrev pub overlay : List Field → List Field → List Field
overlay [] slots = slots
overlay (f ∷ fs) [] = []
overlay (f ∷ fs) (g ∷ slots) = f ∷ overlay fs slots

-- these fields hold these contents, one after the other
abbrev pub Bodies : List Field → List (List ℕ) → Type 0
Bodies [] [] = Unit {0}
Bodies [] (c ∷ cs) = ⊥
Bodies (f ∷ fs) [] = ⊥
Bodies (f ∷ fs) (c ∷ cs) = (f.bytes.now ≡ body f.quoted c) × Bodies fs cs

-- the record that begins at `at` is handed out as these fields, and what follows it stands at next
pub record Handed (text : List ℕ) (at : ℕ) (fields : List Field) (next : ℕ) : Type 0 where
  pub end : ℕ
  pub took : TookRecord text at fields end next
  pub contents : List (List ℕ)
  pub recorded : Recorded (drop at text) contents (drop next text)
  pub bodies : Bodies fields contents

-- the record that begins at `at` has n fields, and what follows it stands at next
pub record Skipped (text : List ℕ) (at n next : ℕ) : Type 0 where
  pub fields : List Field
  pub handed : Handed text at fields next
  pub count : n ≡ length fields
