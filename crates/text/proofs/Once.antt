-- A text begins with at most one field, with at most one record, and has at most one reading. Assumes nothing.
use Rattle.std.proofs.Common.{◌≡◌, ℕ, suc, Bool, true, false, List, [], ◌∷◌, ◌++◌, length, drop, sym, refl, ap, ◌∙◌, subst, arith}
use Rattle.text.specs.declared.field.Field.{Field}
use Rattle.text.specs.declared.field.Mark.{Mark}
use Rattle.text.specs.declared.field.Mark.TheVariants.{Comma, Line, End}
use Rattle.text.specs.declared.field.TextFault.{TextFault}
use Rattle.text.specs.declared.field.TextFault.TheVariants.{BareLineEnd, StrayQuote, OpenQuote, AfterQuote, FieldCount}
use Rattle.text.specs.declared.record.Extent.{Extent}
use Rattle.text.specs.Grammar.{escape, sign, Ends, Fielded, NoRecord, NoRecordOf, Recorded, ReadsTo, Reading}
use Rattle.text.specs.Grammar.Recorded.{last, more}
use Rattle.text.specs.Grammar.ReadsTo.{none, next}
use Rattle.text.specs.Taken.{Took, TookRecord, Bodies, Handed, Skipped}
use Rattle.text.specs.Taken.TookRecord.{last as took_last, more as took_more}
use Rattle.text.specs.Faults.{Broken, Miscounted, Cause, RecordRefused, ColumnsRefused}
use Rattle.text.specs.Faults.Broken.{here, later}
use Rattle.text.specs.Extents.{ReadRecord, BrokenRecord}
use Rattle.text.specs.Laws.{Unique}
use Rattle.text.proofs.Contents.{plain_unique, escape_unique}
use Rattle.text.proofs.Records.{overlay_length, overlay_all}
use Rattle.text.proofs.Spans.{stopped_sign, noquote_sign, quote_plain, unquoted, wrong_none}

sign_unique : (m m' : Mark) (r r' : List ℕ) → Ends m r → Ends m' r' → sign m ++ r ≡ sign m' ++ r' → (m ≡ m') × (r ≡ r')
sign_unique Comma Comma r r' e f h = (refl, (cc))
sign_unique Line Line r r' e f h = (refl, (cc))
sign_unique End End r r' e f h = (refl, h)
sign_unique Comma Line r r' e f h = let z : ◌≡◌ {A = ℕ} 44 13 = cc in absurd (omega arith)
sign_unique Line Comma r r' e f h = let z : ◌≡◌ {A = ℕ} 44 13 = cc in absurd (omega arith)
sign_unique Comma End r r' e f h = let z : ◌≡◌ {A = ℕ} 0 1 = cc in absurd (omega arith)
sign_unique Line End r r' e f h = let z : ◌≡◌ {A = ℕ} 0 1 = cc in absurd (omega arith)
sign_unique End Comma r r' e f h = let z : ◌≡◌ {A = ℕ} 0 1 = cc in absurd (omega arith)
sign_unique End Line r r' e f h = let z : ◌≡◌ {A = ℕ} 0 1 = cc in absurd (omega arith)

pub fielded_unique : (s : List ℕ) (q q' : Bool) (c c' : List ℕ) (m m' : Mark) (r r' : List ℕ) → Fielded s q c m r → Fielded s q' c' m' r' → (q ≡ q') × (c ≡ c') × (m ≡ m') × (r ≡ r')
fielded_unique s false false c c' m m' r r' f g =
    let p = plain_unique c c' (sign m ++ r) (sign m' ++ r') f.proper g.proper (stopped_sign m r f.ends) (stopped_sign m' r' g.ends) (sym f.split ∙ g.split) in
    let k = sign_unique m m' r r' f.ends g.ends p.1 in
    (refl, p.0, k.0, k.1)
fielded_unique s true true c c' m m' r r' f g =
    let e : 34 ∷ (escape c ++ 34 ∷ (sign m ++ r)) ≡ 34 ∷ (escape c' ++ 34 ∷ (sign m' ++ r')) = sym (unquoted c (sign m ++ r)) ∙ sym f.split ∙ g.split ∙ unquoted c' (sign m' ++ r') in
    let h : escape c ++ 34 ∷ (sign m ++ r) ≡ escape c' ++ 34 ∷ (sign m' ++ r') = cc in
    let p = escape_unique c c' (sign m ++ r) (sign m' ++ r') (noquote_sign m r f.ends) (noquote_sign m' r' g.ends) h in
    let k = sign_unique m m' r r' f.ends g.ends p.1 in
    (refl, p.0, k.0, k.1)
fielded_unique s false true c c' m m' r r' f g =
    absurd (quote_plain (escape c' ++ 34 ∷ (sign m' ++ r')) c m r f.proper f.ends (sym (unquoted c' (sign m' ++ r')) ∙ sym g.split ∙ f.split))
fielded_unique s true false c c' m m' r r' f g =
    absurd (quote_plain (escape c ++ 34 ∷ (sign m ++ r)) c' m' r' g.proper g.ends (sym (unquoted c (sign m ++ r)) ∙ sym f.split ∙ g.split))

pub recorded_unique : (s r r' : List ℕ) (cs cs' : List (List ℕ)) → Recorded s cs r → Recorded s cs' r' → (cs ≡ cs') × (r ≡ r')
recorded_unique s r r' _ _ (last f n) (last g m) = let p = fielded_unique _ _ _ _ _ _ _ _ _ f g in (ap (λ c. c ∷ []) p.1, p.3)
recorded_unique s r r' _ _ (last f n) (more g k) = absurd (n (fielded_unique _ _ _ _ _ _ _ _ _ f g).2)
recorded_unique s r r' _ _ (more f h) (last g m) = absurd (m (fielded_unique _ _ _ _ _ _ _ _ _ g f).2)
recorded_unique s r r' _ _ (more {cs = cs} f h) (more {cs = cs'} g k) =
    let p = fielded_unique _ _ _ _ _ _ _ _ _ f g in
    let q = recorded_unique _ r r' cs cs' (subst (λ t. Recorded t cs r) p.3 h) k in
    let e = p.1 in
    let d = q.0 in
    ((cc), q.1)

-- where a record is broken there is none
pub broken_none : (s : List ℕ) (at : ℕ) (fs : List Field) (fault : TextFault) → Broken s at fs fault → NoRecord (drop at s)
broken_none s at _ fault (here w) cs rest (last f n) = wrong_none s at fault w _ _ _ _ f
broken_none s at _ fault (here w) cs rest (more f k) = wrong_none s at fault w _ _ _ _ f
broken_none s at _ fault (later t e b) cs rest (last f n) = n (sym (fielded_unique _ _ _ _ _ _ _ _ _ t.fielded f).2 ∙ e)
broken_none s at _ fault (later {mid = mid} t e b) cs rest (more {cs = ds} f k) =
    broken_none s mid _ fault b ds rest (subst (λ u. Recorded u ds rest) (sym (fielded_unique _ _ _ _ _ _ _ _ _ t.fielded f).3) k)

pub took_comma : (s : List ℕ) (at after : ℕ) (f : Field) (h : Took s at f after) → f.mark ≡ Comma → Fielded (drop at s) f.quoted h.content Comma (drop after s)
took_comma s at after f h e = subst (λ m. Fielded (drop at s) f.quoted h.content m (drop after s)) e h.fielded

-- the fields handed out are a record
pub handed : (s : List ℕ) (at end after : ℕ) (fs : List Field) → TookRecord s at fs end after → Handed s at fs after
handed s at end after fs t = let r = recorded s at end after fs t in record { end = end; took = t; contents = r.0; recorded = r.1; bodies = r.2 }
  where
    recorded : (s : List ℕ) (at end after : ℕ) (fs : List Field) → TookRecord s at fs end after → (cs : List (List ℕ)) × Recorded (drop at s) cs (drop after s) × Bodies fs cs
    recorded s at end after _ (took_last h n) = (h.content ∷ [], last h.fielded n, (h.bytes, tt))
    recorded s at end after _ (took_more h e t) =
        let r = recorded s _ end after _ t in
        (h.content ∷ r.0, more (took_comma s at _ _ h e) r.1, (h.bytes, r.2))

bodies_length : (fs : List Field) (cs : List (List ℕ)) → Bodies fs cs → length cs ≡ length fs
bodies_length [] [] h = refl
bodies_length [] (c ∷ cs) h = absurd h
bodies_length (f ∷ fs) [] h = absurd h
bodies_length (f ∷ fs) (c ∷ cs) h = ap suc (bodies_length fs cs h.1)

pub miscounted_none : (s : List ℕ) (columns at end : ℕ) (fs : List Field) → Miscounted s columns at fs end → NoRecordOf columns (drop at s)
miscounted_none s columns at end fs h cs rest l k =
    let r = handed s at end h.next fs h.took in
    h.other (sym (bodies_length fs r.contents r.bodies) ∙ ap length (recorded_unique _ _ _ _ _ r.recorded k).0 ∙ l)

pub reads_push : (s mid rest : List ℕ) (rs : List (List (List ℕ))) (cs : List (List ℕ)) → ReadsTo s rs mid → (mid ≡ [] → ⊥) → Recorded mid cs rest → ReadsTo s (rs ++ cs ∷ []) rest
reads_push s mid rest _ cs none ne h = next ne h none
reads_push s mid rest _ cs (next n k r) ne h = next n k (reads_push _ mid rest _ cs r ne h)

-- after the records that were read nothing begins: no reading
pub reads_stuck : (s rest : List ℕ) (rs ps : List (List (List ℕ))) → ReadsTo s ps rest → (rest ≡ [] → ⊥) → NoRecord rest → Reading s rs → ⊥
reads_stuck s rest _ _ none ne stuck none = ne refl
reads_stuck s rest _ _ none ne stuck (next n k r) = stuck _ _ k
reads_stuck s rest _ _ (next n k r) ne stuck none = n refl
reads_stuck s rest _ _ (next {rs = ps} n k r) ne stuck (next {rs = rs} m l q) =
    reads_stuck _ rest rs ps r ne stuck (subst (λ t. ReadsTo t rs []) (sym (recorded_unique _ _ _ _ _ k l).1) q)

pub reading_unique : Unique
reading_unique s _ _ none none = refl
reading_unique s _ _ none (next n k r) = absurd (n refl)
reading_unique s _ _ (next n k r) none = absurd (n refl)
reading_unique s _ _ (next {rs = rs} n k r) (next {rs = rs'} m l q) =
    let p = recorded_unique _ _ _ _ _ k l in
    let e = p.0 in
    let d = reading_unique _ rs rs' r (subst (λ t. ReadsTo t rs' []) (sym p.1) q) in
    cc

not_count : (s : List ℕ) (at : ℕ) (fs : List Field) (i : ℕ) → Broken s at fs (FieldCount i) → ⊥
not_count s at _ i (here w) = elim w [ ]
not_count s at _ i (later t e b) = not_count s _ _ i b

-- a broken record is no miscounted one
pub broken_cause : (s : List ℕ) (columns at : ℕ) (fs : List Field) (fault : TextFault) → Broken s at fs fault → Cause s columns at fs fault
broken_cause s columns at fs (BareLineEnd i) b = b
broken_cause s columns at fs (StrayQuote i) b = b
broken_cause s columns at fs (OpenQuote i) b = b
broken_cause s columns at fs (AfterQuote i) b = b
broken_cause s columns at fs (FieldCount i) b = absurd (not_count s at fs i b)

-- what a refused record of as many fields as slots owes
pub refused_broken : (s : List ℕ) (at : ℕ) (old new : List Field) (fault : TextFault) → BrokenRecord s at old new fault → ColumnsRefused s at old new fault
refused_broken s at old new fault b = record {
  absent = λ cs rest l k. broken_none s at b.fields fault b.broken cs rest k;
  fields = b.fields;
  cause = broken_cause s (length old) at b.fields fault b.broken;
  laid = b.laid;
}

pub record_refused : (s : List ℕ) (at : ℕ) (old new : List Field) (fault : TextFault) → BrokenRecord s at old new fault → RecordRefused s at fault
record_refused s at old new fault b = record { absent = broken_none s at b.fields fault b.broken; fields = b.fields; cause = b.broken }

pub refused_count : (s : List ℕ) (at : ℕ) (old new : List Field) (x : Extent) → ReadRecord s at old new x → (x.count ≡ length new → ⊥) → ColumnsRefused s at old new (FieldCount x.end)
refused_count s at old new x h n =
    let m : Miscounted s (length old) at h.fields x.end = record { next = x.next; took = h.took; other = λ e. n (h.counted ∙ e ∙ sym (overlay_length h.fields old) ∙ ap length (sym h.laid)) } in
    record { absent = miscounted_none s (length old) at x.end h.fields m; fields = h.fields; cause = m; laid = h.laid }

-- the slots hold the record's fields
pub handed_out : (s : List ℕ) (at : ℕ) (old new : List Field) (x : Extent) → ReadRecord s at old new x → x.count ≡ length new → Handed s at new x.next
handed_out s at old new x h e =
    let l : length h.fields ≡ length old = sym h.counted ∙ e ∙ ap length h.laid ∙ overlay_length h.fields old in
    handed s at x.end x.next new (subst (λ fs. TookRecord s at fs x.end x.next) (sym (h.laid ∙ overlay_all h.fields old l)) h.took)

pub skipped : (s : List ℕ) (at : ℕ) (old new : List Field) (x : Extent) → ReadRecord s at old new x → Skipped s at x.count x.next
skipped s at old new x h = record { fields = h.fields; handed = handed s at x.end x.next h.fields h.took; count = h.counted }
