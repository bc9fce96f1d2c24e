-- The places of a text's fields, one field after the other. Assumes nothing.
use Rattle.std.proofs.Common.{◌≡◌, ℕ, Some, None, Ok, Err, Option, Result, Bool, true, false, not, List, [], ◌∷◌, ◌++◌, sym, refl, ap, ◌∙◌, subst, append_assoc, arith}
use Rattle.text.specs.declared.field.Field.{Field}
use Rattle.text.specs.declared.field.Mark.{Mark}
use Rattle.text.specs.declared.field.Mark.TheVariants.{Comma, Line, End}
use Rattle.text.specs.declared.field.TextFault.{TextFault}
use Rattle.text.specs.Steps.{goes_on, Due, Step}
use Rattle.script.specs.declared.fields.Place.{Place}
use Rattle.script.specs.Listing.{ends, place, Begins, Listed}
use Rattle.script.specs.Listing.Listed.{done, refused, next}

-- a field that is due begins
due_begins : (text : List ℕ) (at : ℕ) (inside : Bool) → Due text at inside → Begins text (not inside) at
due_begins text at false due = due refl
due_begins text at true due = tt

mark_ends : (m : Mark) → not (goes_on m) ≡ ends m
mark_ends Comma = refl
mark_ends Line = refl
mark_ends End = refl

-- one field on
pub listed_more : (text : List ℕ) (before : List Place) (inside on : Bool) (at next : ℕ) (f : Field) → Step text at inside (Ok (Some f)) next on → ((ps : List Place) → Listed text (not inside) at ps → Listed text true 0 (before ++ ps)) → (ps : List Place) → Listed text (not on) next ps → Listed text true 0 ((before ++ (place f ∷ [])) ++ ps)
listed_more text before inside on at after f (due, took, goes) inv ps l =
    let rest : Listed text (ends f.mark) after ps = subst (λ b. Listed text b after ps) (ap not goes ∙ mark_ends f.mark) l in
    subst (λ qs. Listed text true 0 qs) (sym (append_assoc before (place f ∷ []) ps)) (inv (place f ∷ ps) (next (due_begins text at inside due) took rest))

-- an answer that hands out no field
abbrev pub FieldAnswer : Type 0
FieldAnswer = Result (Option Field) TextFault

pub none_handed : (r : FieldAnswer) (o : Option Field) → r ≡ Ok o → o ≡ None → (f : Field) → r ≡ Ok (Some f) → ⊥
none_handed r o e none f s = cc

pub fault_handed : (r : FieldAnswer) (x : TextFault) → r ≡ Err x → (f : Field) → r ≡ Ok (Some f) → ⊥
fault_handed r x e f s = cc

-- no field: the text's end, or a wrong record
pub listed_stop : (text : List ℕ) (inside on : Bool) (at next : ℕ) (r : FieldAnswer) → ((f : Field) → r ≡ Ok (Some f) → ⊥) → Step text at inside r next on → Listed text (not inside) at []
listed_stop text inside on at after (Ok None) stops (out, end, _, _) = subst (λ b. Listed text (not b) at []) (sym out) (done (omega arith))
listed_stop text inside on at after (Ok (Some f)) stops step = absurd (stops f refl)
listed_stop text inside on at after (Err fault) stops (_, wrong, _, _) = refused wrong.absent
