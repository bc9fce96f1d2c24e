-- A field by its places, and where there is none. Assumes nothing.
use Rattle.std.proofs.Common.{◌≡◌, ℕ, ◌+◌, ◌<◌, Bool, true, false, List, [], ◌∷◌, ◌++◌, length, get_or, drop, sym, refl, ap, ◌∙◌, subst, ⊎_elim, append_assoc, arith}
use Rattle.std.proofs.lemmas.List.{drop_more, drop_all}
use Rattle.std.proofs.lemmas.Bool.{cases_eq, cases_lt}
use Rattle.text.specs.declared.field.Mark.{Mark}
use Rattle.text.specs.declared.field.Mark.TheVariants.{Comma, Line, End}
use Rattle.text.specs.declared.field.TextFault.{TextFault}
use Rattle.text.specs.declared.field.TextFault.TheVariants.{StrayQuote, AfterQuote}
use Rattle.text.specs.declared.field.Span.{Span}
use Rattle.text.specs.Grammar.{Plain, AllPlain, escape, written, sign, Ends, NoField}
use Rattle.text.specs.Scans.{NoQuote, Unclosed, Upto, past, Spans}
use Rattle.text.specs.Faults.{Wrong, FieldRefused}
use Rattle.text.specs.Faults.Wrong.{bare, stray, unclosed, extra}
use Rattle.text.proofs.Contents.{Stopped, plain_unique, escape_unique, escape_open}
use Rattle.text.proofs.Marks.{NoMark, no_mark, head_at}

pub stopped_at : (s : List ℕ) (i : ℕ) → (i < length s → Plain (get_or s i 0) → ⊥) → Stopped (drop i s)
stopped_at s i n =
    ⊎_elim
    (λ l. subst Stopped (sym (drop_more s i 0 l)) (n l))
    (λ l. subst Stopped (sym (drop_all i s l)) tt)
    (cases_lt i (length s))

pub stopped_sign : (m : Mark) (rest : List ℕ) → Ends m rest → Stopped (sign m ++ rest)
stopped_sign Comma rest e = λ p. p.0 refl
stopped_sign Line rest e = λ p. p.2 refl
stopped_sign End rest e = subst Stopped (sym e) tt

pub noquote_sign : (m : Mark) (rest : List ℕ) → Ends m rest → NoQuote (sign m ++ rest)
noquote_sign Comma rest e = λ p. omega arith
noquote_sign Line rest e = λ p. omega arith
noquote_sign End rest e = λ p. let z : ◌≡◌ {A = ℕ} 0 34 = sym (ap (λ u. get_or u 0 0) e) ∙ p in omega arith

-- a text that begins with a quote is no plain field
pub quote_plain : (t c : List ℕ) (mark : Mark) (rest : List ℕ) → AllPlain c → Ends mark rest → 34 ∷ t ≡ c ++ (sign mark ++ rest) → ⊥
quote_plain t [] Comma rest a e h = let z : ◌≡◌ {A = ℕ} 34 44 = cc in omega arith
quote_plain t [] Line rest a e h = let z : ◌≡◌ {A = ℕ} 34 13 = cc in omega arith
quote_plain t [] End rest a e h = let z : ◌≡◌ {A = ℕ} 0 1 = cc in omega arith
quote_plain t (b ∷ c) mark rest a e h = let z : b ≡ 34 = cc in a.0.1 z

pub unquoted : (c : List ℕ) (t : List ℕ) → written true c ++ t ≡ 34 ∷ (escape c ++ 34 ∷ t)
unquoted c t = ap (λ u. 34 ∷ u) (append_assoc (escape c) (34 ∷ []) t)

module _ (s : List ℕ) (at : ℕ) (within : at < length s) (quote : get_or s at 0 ≡ 34) where
  begins : drop at s ≡ 34 ∷ drop (at + 1) s
  begins = let d = drop_more s at 0 within in cc

  pub open_none : Unclosed s (at + 1) → NoField (drop at s)
  open_none h false content mark rest f = quote_plain (drop (at + 1) s) content mark rest f.proper f.ends (sym begins ∙ f.split)
  open_none h true content mark rest f =
      let c = h.0 in
      let p : 34 ∷ escape c ≡ 34 ∷ (escape content ++ 34 ∷ (sign mark ++ rest)) = ap (λ u. 34 ∷ u) (sym h.1) ∙ sym begins ∙ f.split ∙ unquoted content (sign mark ++ rest) in
      let g : escape c ≡ escape content ++ 34 ∷ (sign mark ++ rest) = cc in
      escape_open c content (sign mark ++ rest) (noquote_sign mark rest f.ends) g

-- a field goes up to i and no mark stands there: no field
upto_none : (s : List ℕ) (at i : ℕ) (q : Bool) (c : List ℕ) → Upto s at i q c → NoMark (drop i s) → NoField (drop at s)
upto_none s at i false c h none false content mark rest f =
    none mark rest (plain_unique c content (drop i s) (sign mark ++ rest) h.proper f.proper (stopped_at s i h.stops) (stopped_sign mark rest f.ends) (sym h.split ∙ f.split)).1 f.ends
upto_none s at i false c h none true content mark rest f = h.opens (ap (λ l. get_or l 0 0) f.split)
upto_none s at i true c h none false content mark rest f =
    quote_plain (escape c ++ 34 ∷ drop i s) content mark rest f.proper f.ends (sym (unquoted c (drop i s)) ∙ sym h.split ∙ f.split)
upto_none s at i true c h none true content mark rest f =
    let p : 34 ∷ (escape c ++ 34 ∷ drop i s) ≡ 34 ∷ (escape content ++ 34 ∷ (sign mark ++ rest)) = sym (unquoted c (drop i s)) ∙ sym h.split ∙ f.split ∙ unquoted content (sign mark ++ rest) in
    let g : escape c ++ 34 ∷ drop i s ≡ escape content ++ 34 ∷ (sign mark ++ rest) = cc in
    none mark rest (escape_unique c content (drop i s) (sign mark ++ rest) h.stops (noquote_sign mark rest f.ends) g).1 f.ends

-- where a field is wrong there is none
pub wrong_none : (s : List ℕ) (at : ℕ) (fault : TextFault) → Wrong s at fault → NoField (drop at s)
wrong_none s at _ (bare {i = i} h b) = upto_none _ _ _ _ _ h (no_mark s i b.0 (λ e. ⊎_elim (λ k. omega arith) (λ k. omega arith) b.1) b.2)
wrong_none s at _ (stray {i = i} h l e) = upto_none _ _ _ _ _ h (no_mark s i l (λ k. omega arith) (λ k. let z = k.1 in omega arith))
wrong_none s at _ (unclosed l e h) = open_none s at l e h
wrong_none s at _ (extra {i = i} h l p) = upto_none _ _ _ _ _ h (no_mark s i l p.0 (λ k. p.2 k.1))

pub field_refused : (s : List ℕ) (at : ℕ) (fault : TextFault) → Wrong s at fault → FieldRefused s at fault
field_refused s at fault w = record { absent = wrong_none s at fault w; cause = w }

-- the byte that stops an unquoted field and begins no mark is a quote
pub stop_quote : (s : List ℕ) (i : ℕ) → i < length s → (i < length s → Plain (get_or s i 0) → ⊥) → (get_or s i 0 ≡ 44 → ⊥) → (get_or s i 0 ≡ 13 → ⊥) → (get_or s i 0 ≡ 10 → ⊥) → get_or s i 0 ≡ 34
stop_quote s i l stops a b d = ⊎_elim (λ e. e) (λ n. absurd (stops l (a, n, b, d))) (cases_eq (get_or s i 0) 34)

-- the byte after a closing quote that begins no mark
pub stop_plain : (s : List ℕ) (i : ℕ) → NoQuote (drop i s) → (get_or s i 0 ≡ 44 → ⊥) → (get_or s i 0 ≡ 13 → ⊥) → (get_or s i 0 ≡ 10 → ⊥) → Plain (get_or s i 0)
stop_plain s i n a b d = (a, λ e. n (head_at s i ∙ e), b, d)

-- a span as its parts say it, with the place after its closing quote
pub span_upto : (s : List ℕ) (at after : ℕ) (p : Span) (h : Spans s at p) → after ≡ past p.quoted p.end → Upto s at after p.quoted h.content
span_upto s at after p h e = subst (λ i. Upto s at i p.quoted h.content) (sym e) h.upto

-- which fault stands where no mark does
pub fault_quoted : (s : List ℕ) (at after : ℕ) (q : Bool) (c : List ℕ) → Upto s at after q c → q ≡ true → after < length s → (get_or s after 0 ≡ 44 → ⊥) → (get_or s after 0 ≡ 13 → ⊥) → (get_or s after 0 ≡ 10 → ⊥) → Wrong s at (AfterQuote after)
fault_quoted s at after true c h e l a b d = extra h l (stop_plain s after h.stops a b d)
fault_quoted s at after false c h e l a b d = let z : ◌≡◌ {A = ℕ} 0 1 = cc in absurd (omega arith)

pub fault_plain : (s : List ℕ) (at after : ℕ) (q : Bool) (c : List ℕ) → Upto s at after q c → q ≡ false → after < length s → (get_or s after 0 ≡ 44 → ⊥) → (get_or s after 0 ≡ 13 → ⊥) → (get_or s after 0 ≡ 10 → ⊥) → Wrong s at (StrayQuote after)
fault_plain s at after false c h e l a b d = stray h l (stop_quote s after l h.stops a b d)
fault_plain s at after true c h e l a b d = let z : ◌≡◌ {A = ℕ} 0 1 = cc in absurd (omega arith)
