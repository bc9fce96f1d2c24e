-- At one place of a text there is one field or one fault. Assumes nothing.
use Rattle.std.proofs.Common.{◌≡◌, ℕ, ◌+◌, ◌<◌, ◌≤◌, Bool, true, false, ◌⊎◌, List, ◌∷◌, ◌++◌, length, get_or, drop, sym, refl, ap, ◌∙◌, subst, inl, inr, ⊎_elim, arith, length-drop}
use Rattle.std.proofs.lemmas.List.{drop_more}
use Rattle.std.proofs.lemmas.Bool.{false≢true}
use Rattle.text.specs.declared.field.Field.{Field}
use Rattle.text.specs.declared.field.TextFault.{TextFault}
use Rattle.text.specs.declared.field.TextFault.TheVariants.{BareLineEnd, StrayQuote, OpenQuote, AfterQuote, FieldCount}
use Rattle.text.specs.Grammar.{Plain, escape, body}
use Rattle.text.specs.Scans.{Unclosed, Upto, past}
use Rattle.text.specs.Taken.{TookRecord}
use Rattle.text.specs.Taken.TookRecord.{last, more}
use Rattle.text.specs.Faults.{Bare, Broken, Miscounted, Cause}
use Rattle.text.specs.Faults.Wrong.{bare, stray, unclosed, extra}
use Rattle.text.specs.Faults.Broken.{here, later}
use Rattle.text.specs.Laws.{OneField, OneFault, OneCause}
use Rattle.text.proofs.Contents.{plain_unique, escape_unique, escape_open}
use Rattle.text.proofs.Marks.{head_at}
use Rattle.text.proofs.Spans.{stopped_at, unquoted, wrong_none}
use Rattle.text.proofs.Once.{fielded_unique, broken_none, handed}

-- what follows tells the place
same_place : (s : List ℕ) (i j : ℕ) → i ≤ length s → j ≤ length s → drop i s ≡ drop j s → i ≡ j
same_place s i j l m e = let a = length-drop i s in let b = length-drop j s in omega (arith, ap length e)

pub one_field : OneField
one_field s at f g n m h k =
    let u = fielded_unique _ _ _ _ _ _ _ _ _ h.fielded k.fielded in
    let q = u.0 in
    let start : f.start ≡ g.start = h.start ∙ ap (λ b. past b at) q ∙ sym k.start in
    let bytes : f.bytes.now ≡ g.bytes.now = h.bytes ∙ ap (λ c. body f.quoted c) u.1 ∙ ap (λ b. body b k.content) q ∙ sym k.bytes in
    (record { bytes = bytes; start = start; end = omega (arith, h.end, k.end, start, ap length bytes); quoted = q; mark = u.2 }, same_place s n m h.closed.within k.closed.within u.3)

upto_unique : (s : List ℕ) (at i j : ℕ) (q p : Bool) (c d : List ℕ) → Upto s at i q c → Upto s at j p d → (i ≡ j) × (q ≡ p)
upto_unique s at i j false false c d h k =
    (same_place s i j h.within k.within (plain_unique c d (drop i s) (drop j s) h.proper k.proper (stopped_at s i h.stops) (stopped_at s j k.stops) (sym h.split ∙ k.split)).1, refl)
upto_unique s at i j true true c d h k =
    let e : 34 ∷ (escape c ++ 34 ∷ drop i s) ≡ 34 ∷ (escape d ++ 34 ∷ drop j s) = sym (unquoted c (drop i s)) ∙ sym h.split ∙ k.split ∙ unquoted d (drop j s) in
    let g : escape c ++ 34 ∷ drop i s ≡ escape d ++ 34 ∷ drop j s = cc in
    (same_place s i j h.within k.within (escape_unique c d (drop i s) (drop j s) h.stops k.stops g).1, refl)
upto_unique s at i j false true c d h k = absurd (h.opens (ap (λ l. get_or l 0 0) k.split))
upto_unique s at i j true false c d h k = absurd (k.opens (ap (λ l. get_or l 0 0) h.split))

-- a field that ends is not open
upto_closed : (s : List ℕ) (at i : ℕ) (q : Bool) (c : List ℕ) → Upto s at i q c → at < length s → get_or s at 0 ≡ 34 → Unclosed s (at + 1) → ⊥
upto_closed s at i false c h l e u = h.opens (head_at s at ∙ e)
upto_closed s at i true c h l e u =
    let d = drop_more s at 0 l in
    let b : drop at s ≡ 34 ∷ drop (at + 1) s = cc in
    let p : 34 ∷ escape u.0 ≡ 34 ∷ (escape c ++ 34 ∷ drop i s) = ap (λ t. 34 ∷ t) (sym u.1) ∙ sym b ∙ h.split ∙ unquoted c (drop i s) in
    let g : escape u.0 ≡ escape c ++ 34 ∷ drop i s = cc in
    escape_open u.0 c (drop i s) h.stops g

bare_quote : (s : List ℕ) (i j : ℕ) → Bare s i → i ≡ j → get_or s j 0 ≡ 34 → ⊥
bare_quote s i j b e q = let k : get_or s i 0 ≡ 34 = ap (λ n. get_or s n 0) e ∙ q in ⊎_elim (λ z. omega arith) (λ z. omega arith) b.1

bare_plain : (s : List ℕ) (i j : ℕ) → Bare s i → i ≡ j → Plain (get_or s j 0) → ⊥
bare_plain s i j b e p = ⊎_elim (λ z. p.2 (ap (λ n. get_or s n 0) (sym e) ∙ z)) (λ z. p.3 (ap (λ n. get_or s n 0) (sym e) ∙ z)) b.1

pub one_fault : OneFault
one_fault s at _ _ (bare h b) (bare k d) = ap BareLineEnd (upto_unique _ _ _ _ _ _ _ _ h k).0
one_fault s at _ _ (bare h b) (stray k l e) = absurd (bare_quote s _ _ b (upto_unique _ _ _ _ _ _ _ _ h k).0 e)
one_fault s at _ _ (bare h b) (unclosed l e u) = absurd (upto_closed _ _ _ _ _ h l e u)
one_fault s at _ _ (bare h b) (extra k l p) = absurd (bare_plain s _ _ b (upto_unique _ _ _ _ _ _ _ _ h k).0 p)
one_fault s at _ _ (stray h l e) (bare k d) = absurd (bare_quote s _ _ d (upto_unique _ _ _ _ _ _ _ _ k h).0 e)
one_fault s at _ _ (stray h l e) (stray k m f) = ap StrayQuote (upto_unique _ _ _ _ _ _ _ _ h k).0
one_fault s at _ _ (stray h l e) (unclosed m f u) = absurd (upto_closed _ _ _ _ _ h m f u)
one_fault s at _ _ (stray h l e) (extra k m p) = let z = (upto_unique _ _ _ _ _ _ _ _ h k).1 in absurd (false≢true z)
one_fault s at _ _ (unclosed l e u) (bare k d) = absurd (upto_closed _ _ _ _ _ k l e u)
one_fault s at _ _ (unclosed l e u) (stray k m f) = absurd (upto_closed _ _ _ _ _ k l e u)
one_fault s at _ _ (unclosed l e u) (unclosed m f v) = refl
one_fault s at _ _ (unclosed l e u) (extra k m p) = absurd (upto_closed _ _ _ _ _ k l e u)
one_fault s at _ _ (extra h l p) (bare k d) = absurd (bare_plain s _ _ d (upto_unique _ _ _ _ _ _ _ _ k h).0 p)
one_fault s at _ _ (extra h l p) (stray k m f) = let z = (upto_unique _ _ _ _ _ _ _ _ k h).1 in absurd (false≢true z)
one_fault s at _ _ (extra h l p) (unclosed m f v) = absurd (upto_closed _ _ _ _ _ h m f v)
one_fault s at _ _ (extra h l p) (extra k m r) = ap AfterQuote (upto_unique _ _ _ _ _ _ _ _ h k).0

one_broken : (s : List ℕ) (at : ℕ) (fs fs' : List Field) (e e' : TextFault) → Broken s at fs e → Broken s at fs' e' → e ≡ e'
one_broken s at _ _ e e' (here w) (here v) = one_fault s at e e' w v
one_broken s at _ _ e e' (here w) (later t c b) = absurd (wrong_none s at e w _ _ _ _ t.fielded)
one_broken s at _ _ e e' (later t c b) (here w) = absurd (wrong_none s at e' w _ _ _ _ t.fielded)
one_broken s at _ _ e e' (later {f = f} t c b) (later {f = g} {fs = fs'} u d a) =
    one_broken s _ _ fs' e e' b (subst (λ n. Broken s n fs' e') (sym (one_field s at f g _ _ t u).1) a)

one_end : (s : List ℕ) (at end end' n n' : ℕ) (fs fs' : List Field) → TookRecord s at fs end n → TookRecord s at fs' end' n' → end ≡ end'
one_end s at end end' n n' _ _ (last {f = f} h x) (last {f = g} k y) = let e = (one_field s at f g n n' h k).0 in ap (λ b. past b f.end) e.quoted ∙ ap (λ i. past g.quoted i) e.end
one_end s at end end' n n' _ _ (last {f = f} h x) (more {f = g} k c t) = absurd (x ((one_field s at f g _ _ h k).0.mark ∙ c))
one_end s at end end' n n' _ _ (more {f = f} h c t) (last {f = g} k y) = absurd (y ((one_field s at g f _ _ k h).0.mark ∙ c))
one_end s at end end' n n' _ _ (more {f = f} h c t) (more {f = g} {fs = fs'} k d u) =
    one_end s _ end end' n n' _ fs' t (subst (λ i. TookRecord s i fs' end' n') (sym (one_field s at f g _ _ h k).1) u)

-- a cause is a broken record or a miscounted one
cases_cause : (s : List ℕ) (columns at : ℕ) (fs : List Field) (e : TextFault) → Cause s columns at fs e → Broken s at fs e ⊎ ((end : ℕ) × (e ≡ FieldCount end) × Miscounted s columns at fs end)
cases_cause s columns at fs (BareLineEnd i) h = inl h
cases_cause s columns at fs (StrayQuote i) h = inl h
cases_cause s columns at fs (OpenQuote i) h = inl h
cases_cause s columns at fs (AfterQuote i) h = inl h
cases_cause s columns at fs (FieldCount i) h = inr (i, refl, h)

not_both : (s : List ℕ) (columns at end : ℕ) (fs fs' : List Field) (e : TextFault) → Broken s at fs e → Miscounted s columns at fs' end → ⊥
not_both s columns at end fs fs' e b m = broken_none s at fs e b _ _ (handed s at end m.next fs' m.took).recorded

pub one_cause : OneCause
one_cause s columns at fs fs' e e' h k =
    ⊎_elim
    (λ b. ⊎_elim (λ d. one_broken s at fs fs' e e' b d) (λ m. absurd (not_both s columns at _ fs fs' e b m.2)) (cases_cause s columns at fs' e' k))
    (λ m. ⊎_elim (λ d. absurd (not_both s columns at _ fs' fs e' d m.2)) (λ o. m.1 ∙ ap FieldCount (one_end s at _ _ _ _ fs fs' m.2.took o.2.took) ∙ sym o.1) (cases_cause s columns at fs' e' k))
    (cases_cause s columns at fs e h)

pub at_most_one : OneField × OneFault × OneCause
at_most_one = (one_field, one_fault, one_cause)
