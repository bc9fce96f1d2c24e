-- The fields of a record, one after the other. Assumes nothing.
use Rattle.std.proofs.Common.{◌≡◌, ℕ, suc, ◌+◌, ◌<◌, ◌≤◌, Bool, true, false, List, [], ◌∷◌, ◌++◌, length, set, sym, refl, ap, ◌∙◌, subst, append_assoc, append-nil, arith, length-drop}
use Rattle.std.proofs.lemmas.List.{length_push}
use Rattle.text.specs.declared.field.Field.{Field}
use Rattle.text.specs.declared.field.TextFault.{TextFault}
use Rattle.text.specs.declared.field.Mark.{Mark}
use Rattle.text.specs.declared.field.Mark.TheVariants.{Comma, Line, End}
use Rattle.text.specs.Grammar.{sign}
use Rattle.text.specs.Scans.{past, MarkTo}
use Rattle.text.specs.Taken.{Took, TookRecord, overlay}
use Rattle.text.specs.Taken.TookRecord.{last, more}
use Rattle.text.specs.Extents.{ReadRecord, BrokenRecord}
use Rattle.text.specs.Faults.{Wrong, Broken}
use Rattle.text.specs.Faults.Broken.{here, later}

-- one field more over the slots
overlay_more : (fs slots : List Field) (f : Field) → set (overlay fs slots) (length fs) f ≡ overlay (fs ++ f ∷ []) slots
overlay_more [] [] f = refl
overlay_more [] (g ∷ slots) f = refl
overlay_more (h ∷ fs) [] f = refl
overlay_more (h ∷ fs) (g ∷ slots) f = ap (λ l. h ∷ l) (overlay_more fs slots f)

-- as many fields as slots
pub overlay_all : (fs slots : List Field) → length fs ≡ length slots → overlay fs slots ≡ fs
overlay_all [] [] e = refl
overlay_all [] (g ∷ slots) e = absurd (omega arith)
overlay_all (h ∷ fs) [] e = absurd (omega arith)
overlay_all (h ∷ fs) (g ∷ slots) e = ap (λ l. h ∷ l) (overlay_all fs slots (omega arith))

pub overlay_length : (fs slots : List Field) → length (overlay fs slots) ≡ length slots
overlay_length [] slots = refl
overlay_length (h ∷ fs) [] = refl
overlay_length (h ∷ fs) (g ∷ slots) = ap suc (overlay_length fs slots)

-- the fields from `from` to `at`, a comma after each, are put over the slots
pub record Before (s : List ℕ) (from : ℕ) (old new : List Field) (at count : ℕ) : Type 0 where
  pub fields : List Field
  pub counted : length fields ≡ count
  pub laid : new ≡ overlay fields old
  pub taken : (fs : List Field) (end next : ℕ) → TookRecord s at fs end next → TookRecord s from (fields ++ fs) end next
  pub broken : (fs : List Field) (fault : TextFault) → Broken s at fs fault → Broken s from (fields ++ fs) fault
  pub within : at ≤ length s
  pub fits : from + count ≤ at

past_ge : (q : Bool) (n : ℕ) → n ≤ past q n
past_ge false n = omega arith
past_ge true n = omega arith

took_le : (s : List ℕ) (at next : ℕ) (f : Field) → Took s at f next → at ≤ past f.quoted f.end
took_le s at next f h = omega (arith, h.start, h.end, past_ge f.quoted at, past_ge f.quoted f.end)

-- a comma takes a byte
pub took_later : (s : List ℕ) (at next : ℕ) (f : Field) → Took s at f next → f.mark ≡ Comma → at < next
took_later s at next f h e =
    let one : length (sign f.mark) ≡ 1 = ap (λ m. length (sign m)) e in
    omega (arith, h.closed.after, took_le s at next f h)

laid_more : (old new new' fs : List Field) (count : ℕ) (f : Field) → length fs ≡ count → new ≡ overlay fs old → new' ≡ set new count f → new' ≡ overlay (fs ++ f ∷ []) old
laid_more old new new' fs count f l e k = k ∙ ap (λ u. set u count f) e ∙ ap (λ n. set (overlay fs old) n f) (sym l) ∙ overlay_more fs old f

-- one field more, with a comma after it
pub before_more : (s : List ℕ) (from at count next : ℕ) (old new new' : List Field) (f : Field) → Before s from old new at count → Took s at f next → f.mark ≡ Comma → new' ≡ set new count f → Before s from old new' next (count + 1)
before_more s from at count next old new new' f b h e k = record {
  fields = b.fields ++ f ∷ [];
  counted = length_push b.fields f ∙ ap (λ n. n + 1) b.counted;
  laid = laid_more old new new' b.fields count f b.counted b.laid k;
  taken = λ fs end n t. subst (λ l. TookRecord s from l end n) (sym (append_assoc b.fields (f ∷ []) fs)) (b.taken (f ∷ fs) end n (more h e t));
  broken = λ fs fault t. subst (λ l. Broken s from l fault) (sym (append_assoc b.fields (f ∷ []) fs)) (b.broken (f ∷ fs) fault (later h e t));
  within = h.closed.within;
  fits = omega (arith, b.fits, took_later s at next f h e);
}

-- the last field ends the record
pub before_done : (s : List ℕ) (from at count end next : ℕ) (old new new' : List Field) (f : Field) → Before s from old new at count → Took s at f next → (f.mark ≡ Comma → ⊥) → end ≡ past f.quoted f.end → new' ≡ set new count f → ReadRecord s from old new' record { count = count + 1; end = end; next = next }
before_done s from at count end next old new new' f b h n e k = record {
  fields = b.fields ++ f ∷ [];
  took = subst (λ i. TookRecord s from (b.fields ++ f ∷ []) i next) (sym e) (b.taken (f ∷ []) _ next (last h n));
  within = h.closed.within;
  counted = sym (length_push b.fields f ∙ ap (λ n. n + 1) b.counted);
  laid = laid_more old new new' b.fields count f b.counted b.laid k;
}

-- a wrong field breaks the record
pub before_broken : (s : List ℕ) (from at count : ℕ) (old new : List Field) (fault : TextFault) → Before s from old new at count → Wrong s at fault → BrokenRecord s from old new fault
before_broken s from at count old new fault b w = record {
  fields = b.fields;
  broken = subst (λ l. Broken s from l fault) (append-nil b.fields) (b.broken [] fault (here w));
  laid = b.laid;
}

-- where a record ends
pub took_within : (s : List ℕ) (at end next : ℕ) (fs : List Field) → TookRecord s at fs end next → next ≤ length s
took_within s at end next _ (last h n) = h.closed.within
took_within s at end next _ (more h e t) = took_within s _ end next _ t

ending_later : (s : List ℕ) (at i next : ℕ) (m : Mark) → MarkTo s i m next → (m ≡ Comma → ⊥) → at ≤ i → at < length s → at < next
ending_later s at i next Comma h n l w = absurd (n refl)
ending_later s at i next Line h n l w = let a = h.after in omega arith
ending_later s at i next End h n l w = let long = ap length h.ends in let d = length-drop next s in omega arith

record_le : (s : List ℕ) (at end next : ℕ) (fs : List Field) → TookRecord s at fs end next → at ≤ next
record_le s at end next _ (last {f = f} h n) = omega (arith, h.closed.after, took_le s at next f h)
record_le s at end next _ (more {mid = mid} {f = f} h e t) = omega (arith, took_later s at mid f h e, record_le s mid end next _ t)

-- where bytes are left a record takes some
pub record_later : (s : List ℕ) (at end next : ℕ) (fs : List Field) → at < length s → TookRecord s at fs end next → at < next
record_later s at end next _ w (last {f = f} h n) = ending_later s at _ next f.mark h.closed n (took_le s at next f h) w
record_later s at end next _ w (more {mid = mid} {f = f} h e t) = omega (arith, took_later s at mid f h e, record_le s mid end next _ t)
