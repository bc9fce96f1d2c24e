-- A content is determined by what stands in the text for it. Assumes nothing.
use Rattle.std.proofs.Common.{◌≡◌, ℕ, ◌+◌, ◌<◌, List, [], ◌∷◌, ◌++◌, length, get_or, drop, sym, refl, ap, ◌∙◌, subst, ⊎_elim, append_assoc, arith}
use Rattle.std.proofs.lemmas.List.{drop_more}
use Rattle.std.proofs.lemmas.Bool.{cases_eq, ne_eqb}
use Rattle.text.specs.Grammar.{Plain, AllPlain, escape}
use Rattle.text.specs.Scans.{PlainTo, NoQuote}

-- a list that does not begin with a plain byte
abbrev pub Stopped : List ℕ → Type 0
Stopped [] = Unit {0}
Stopped (b ∷ t) = Plain b → ⊥

pub plain_unique : (c d t u : List ℕ) → AllPlain c → AllPlain d → Stopped t → Stopped u → c ++ t ≡ d ++ u → (c ≡ d) × (t ≡ u)
plain_unique [] [] t u a b s v e = (refl, e)
plain_unique [] (y ∷ d) [] u a b s v e = let z : ◌≡◌ {A = ℕ} 0 1 = cc in absurd (omega arith)
plain_unique [] (y ∷ d) (x ∷ t) u a b s v e = let h : y ≡ x = cc in absurd (s (subst Plain h b.0))
plain_unique (x ∷ c) [] t [] a b s v e = let z : ◌≡◌ {A = ℕ} 0 1 = cc in absurd (omega arith)
plain_unique (x ∷ c) [] t (y ∷ u) a b s v e = let h : x ≡ y = cc in absurd (v (subst Plain h a.0))
plain_unique (x ∷ c) (y ∷ d) t u a b s v e =
    let h : c ++ t ≡ d ++ u = cc in
    let r = plain_unique c d t u a.1 b.1 s v h in
    let p = r.0 in
    let k : x ≡ y = cc in
    ((cc), r.1)

pub escape_quote : (c : List ℕ) (b : ℕ) → b ≡ 34 → escape (b ∷ c) ≡ 34 ∷ (34 ∷ escape c)
escape_quote c b e = rw e refl

pub escape_other : (c : List ℕ) (b : ℕ) → (b ≡ 34 → ⊥) → escape (b ∷ c) ≡ b ∷ escape c
escape_other c b n = let h = ne_eqb b 34 n in rw h refl

pub escape_append : (c d : List ℕ) → escape (c ++ d) ≡ escape c ++ escape d
escape_append [] d = refl
escape_append (b ∷ c) d =
    let ih = escape_append c d in
    ⊎_elim
    (λ e. let p = escape_quote (c ++ d) b e in let q = escape_quote c b e in rw q (p ∙ ap (λ l. 34 ∷ (34 ∷ l)) ih))
    (λ n. let p = escape_other (c ++ d) b n in let q = escape_other c b n in rw q (p ∙ ap (λ l. b ∷ l) ih))
    (cases_eq b 34)

head_quote : (t : List ℕ) (x : List ℕ) → t ≡ 34 ∷ x → NoQuote t → ⊥
head_quote t x e n = n (ap (λ l. get_or l 0 0) e)

pub escape_unique : (c d t u : List ℕ) → NoQuote t → NoQuote u → escape c ++ 34 ∷ t ≡ escape d ++ 34 ∷ u → (c ≡ d) × (t ≡ u)
escape_unique [] [] t u n m e = (refl, (cc))
escape_unique [] (y ∷ d) t u n m e =
    ⊎_elim
    (λ h. let p = escape_quote d y h in let q = rw p at e in let k : t ≡ 34 ∷ (escape d ++ 34 ∷ u) = cc in absurd (head_quote t _ k n))
    (λ h. let p = escape_other d y h in let q = rw p at e in let k : y ≡ 34 = cc in absurd (h k))
    (cases_eq y 34)
escape_unique (x ∷ c) [] t u n m e =
    ⊎_elim
    (λ h. let p = escape_quote c x h in let q = rw p at e in let k : u ≡ 34 ∷ (escape c ++ 34 ∷ t) = cc in absurd (head_quote u _ k m))
    (λ h. let p = escape_other c x h in let q = rw p at e in let k : x ≡ 34 = cc in absurd (h k))
    (cases_eq x 34)
escape_unique (x ∷ c) (y ∷ d) t u n m e =
    ⊎_elim
    (λ h. ⊎_elim
    (λ k.
    let p = rw (escape_quote c x h, escape_quote d y k) at e in
    let g : escape c ++ 34 ∷ t ≡ escape d ++ 34 ∷ u = cc in
    let r = escape_unique c d t u n m g in let r0 = r.0 in let w : x ≡ y = h ∙ sym k in ((cc), r.1))
    (λ k. let p = rw (escape_quote c x h, escape_other d y k) at e in let g : y ≡ 34 = cc in absurd (k g))
    (cases_eq y 34))
    (λ h. ⊎_elim
    (λ k. let p = rw (escape_other c x h, escape_quote d y k) at e in let g : x ≡ 34 = cc in absurd (h g))
    (λ k.
    let p = rw (escape_other c x h, escape_other d y k) at e in
    let g : escape c ++ 34 ∷ t ≡ escape d ++ 34 ∷ u = cc in
    let r = escape_unique c d t u n m g in let r0 = r.0 in let w : x ≡ y = cc in ((cc), r.1))
    (cases_eq y 34))
    (cases_eq x 34)

pub plain_push : (c : List ℕ) (b : ℕ) → AllPlain c → Plain b → AllPlain (c ++ b ∷ [])
plain_push [] b a p = (p, tt)
plain_push (x ∷ c) b a p = (a.0, plain_push c b a.1 p)

-- one plain byte more
pub plain_more : (s : List ℕ) (from i : ℕ) → i < length s → PlainTo s from i → Plain (get_or s i 0) → PlainTo s from (i + 1)
plain_more s from i l h p = (
  h.0 ++ get_or s i 0 ∷ [],
  plain_push h.0 _ h.1 p,
  h.2 ∙ ap (λ u. h.0 ++ u) (drop_more s i 0 l) ∙ sym (append_assoc h.0 (get_or s i 0 ∷ []) (drop (i + 1) s)),
)

-- a content that is never closed is none that is closed
pub escape_open : (c d u : List ℕ) → NoQuote u → escape c ≡ escape d ++ 34 ∷ u → ⊥
escape_open [] [] u n e = let z : ◌≡◌ {A = ℕ} 0 1 = cc in omega arith
escape_open [] (y ∷ d) u n e =
    ⊎_elim
    (λ h. let p = rw (escape_quote d y h) at e in let z : ◌≡◌ {A = ℕ} 0 1 = cc in omega arith)
    (λ h. let p = rw (escape_other d y h) at e in let z : ◌≡◌ {A = ℕ} 0 1 = cc in omega arith)
    (cases_eq y 34)
escape_open (x ∷ c) [] u n e =
    ⊎_elim
    (λ h. let p = rw (escape_quote c x h) at e in let k : u ≡ 34 ∷ escape c = cc in n (ap (λ l. get_or l 0 0) k))
    (λ h. let p = rw (escape_other c x h) at e in let k : x ≡ 34 = cc in h k)
    (cases_eq x 34)
escape_open (x ∷ c) (y ∷ d) u n e =
    ⊎_elim
    (λ h. ⊎_elim
    (λ k. let p = rw (escape_quote c x h, escape_quote d y k) at e in let g : escape c ≡ escape d ++ 34 ∷ u = cc in escape_open c d u n g)
    (λ k. let p = rw (escape_quote c x h, escape_other d y k) at e in let g : y ≡ 34 = cc in k g)
    (cases_eq y 34))
    (λ h. ⊎_elim
    (λ k. let p = rw (escape_other c x h, escape_quote d y k) at e in let g : x ≡ 34 = cc in h g)
    (λ k. let p = rw (escape_other c x h, escape_other d y k) at e in let g : escape c ≡ escape d ++ 34 ∷ u = cc in escape_open c d u n g)
    (cases_eq y 34))
    (cases_eq x 34)
