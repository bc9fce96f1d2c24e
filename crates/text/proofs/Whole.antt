-- A whole walk hands out the fields of the text's reading. Assumes nothing.
use Rattle.std.proofs.Common.{◌≡◌, ℕ, Bool, true, false, List, [], ◌∷◌, ◌++◌, length, drop, sym, refl, ap, subst, arith}
use Rattle.std.specs.List.{flat_map}
use Rattle.std.proofs.lemmas.List.{drop_all}
use Rattle.text.specs.declared.field.Field.{Field}
use Rattle.text.specs.declared.field.Mark.{Mark}
use Rattle.text.specs.declared.field.Mark.TheVariants.{Comma, Line, End}
use Rattle.text.specs.Grammar.{Recorded, ReadsTo}
use Rattle.text.specs.Grammar.Recorded.{last, more}
use Rattle.text.specs.Grammar.ReadsTo.{none, next}
use Rattle.text.specs.Taken.{Took, Bodies}
use Rattle.text.specs.Steps.{goes_on, Due, Steps, AllBodies, WholeWalk}
use Rattle.text.specs.Steps.Steps.{done, field}
use Rattle.text.proofs.Once.{took_comma}
use Rattle.text.proofs.Walked.{some_left}

-- the fields from `at` on, between two records, are those of the records that are left
record Between (s : List ℕ) (at : ℕ) (fs : List Field) : Type 0 where
  records : List (List Field)
  order : fs ≡ flat_map (λ r. r) records
  contents : List (List (List ℕ))
  reading : ReadsTo (drop at s) contents []
  bodies : AllBodies records contents

-- the fields from `at` on, within a record, are the rest of it and then those of the records that are left
record Within (s : List ℕ) (at : ℕ) (fs : List Field) : Type 0 where
  first : List Field
  first_contents : List (List ℕ)
  rest : List ℕ
  recorded : Recorded (drop at s) first_contents rest
  first_bodies : Bodies first first_contents
  records : List (List Field)
  order : fs ≡ first ++ flat_map (λ r. r) records
  contents : List (List (List ℕ))
  reading : ReadsTo rest contents []
  bodies : AllBodies records contents

Left : Bool → List ℕ → ℕ → List Field → Type 0
Left true s at fs = Within s at fs
Left false s at fs = Between s at fs

-- a field that ends its record
ends_record : (s : List ℕ) (at after : ℕ) (f : Field) (fs : List Field) → Took s at f after → (f.mark ≡ Comma → ⊥) → Between s after fs → Within s at (f ∷ fs)
ends_record s at after f fs t n b = record {
  first = f ∷ [];
  first_contents = t.content ∷ [];
  rest = drop after s;
  recorded = last t.fielded n;
  first_bodies = (t.bytes, tt);
  records = b.records;
  order = ap (λ l. f ∷ l) b.order;
  contents = b.contents;
  reading = b.reading;
  bodies = b.bodies;
}

-- one field before what is left
one_more : (s : List ℕ) (at after : ℕ) (f : Field) (fs : List Field) (m : Mark) → f.mark ≡ m → Took s at f after → Left (goes_on m) s after fs → Within s at (f ∷ fs)
unfolding Left
one_more s at after f fs Comma e t w = record {
  first = f ∷ w.first;
  first_contents = t.content ∷ w.first_contents;
  rest = w.rest;
  recorded = more (took_comma s at after f t e) w.recorded;
  first_bodies = (t.bytes, w.first_bodies);
  records = w.records;
  order = ap (λ l. f ∷ l) w.order;
  contents = w.contents;
  reading = w.reading;
  bodies = w.bodies;
}
one_more s at after f fs Line e t w = ends_record s at after f fs t (λ k. let z : ◌≡◌ {A = ℕ} 0 1 = cc in omega arith) w
one_more s at after f fs End e t w = ends_record s at after f fs t (λ k. let z : ◌≡◌ {A = ℕ} 0 1 = cc in omega arith) w

-- where a field is due, the rest of a record is also the first of the records that are left
placed : (s : List ℕ) (at : ℕ) (inside : Bool) (fs : List Field) → Due s at inside → Within s at fs → Left inside s at fs
unfolding Left
placed s at true fs due w = w
placed s at false fs due w = record {
  records = w.first ∷ w.records;
  order = w.order;
  contents = w.first_contents ∷ w.contents;
  reading = next (some_left s at (due refl)) w.recorded w.reading;
  bodies = (w.first_bodies, w.bodies);
}

left : (s : List ℕ) (at : ℕ) (inside : Bool) (fs : List Field) → Steps s at inside fs → Left inside s at fs
unfolding Left
left s _ _ _ done = record { records = []; order = refl; contents = []; reading = subst (λ t. ReadsTo t [] []) (sym (drop_all (length s) s (omega arith))) none; bodies = tt }
left s at inside _ (field {next = after} {f = f} {fs = fs} due t w) = placed s at inside (f ∷ fs) due (one_more s at after f fs f.mark refl t (left s after (goes_on f.mark) fs w))

pub whole_walk : WholeWalk
unfolding Left
whole_walk text fields w =
    let b : Between text 0 fields = left text 0 false fields w in
    record { records = b.records; order = b.order; contents = b.contents; reading = b.reading; bodies = b.bodies }

pub stops : (m : Mark) → (m ≡ Comma → ⊥) → goes_on m ≡ false
stops Comma n = absurd (n refl)
stops Line n = refl
stops End n = refl
