-- Where a mark stands, and where a quote closes. Assumes nothing.
use Rattle.std.proofs.Common.{◌≡◌, ℕ, ◌+◌, ◌-◌, ◌<◌, List, [], ◌∷◌, ◌++◌, length, get_or, take, drop, sym, refl, ap, ◌∙◌, subst, ⊎_elim, append_assoc, add-zero, arith, length-append, length-drop}
use Rattle.std.proofs.lemmas.List.{drop_more, drop_all, drop_at, drop-drop, take_rest, get_or-drop}
use Rattle.std.proofs.lemmas.Bool.{cases_lt}
use Rattle.text.specs.declared.field.Mark.{Mark}
use Rattle.text.specs.declared.field.Mark.TheVariants.{Comma, Line, End}
use Rattle.text.specs.Grammar.{escape, sign, Ends}
use Rattle.text.specs.FirstLine.{LineAt}
use Rattle.text.specs.Scans.{Closes, NoQuote}
use Rattle.text.proofs.Contents.{escape_other, escape_append}

-- no mark stands at the head of t
abbrev pub NoMark : List ℕ → Type 0
NoMark t = (mark : Mark) (rest : List ℕ) → t ≡ sign mark ++ rest → Ends mark rest → ⊥

pub no_mark : (s : List ℕ) (i : ℕ) → i < length s → (get_or s i 0 ≡ 44 → ⊥) → (LineAt s i → ⊥) → NoMark (drop i s)
no_mark s i l n m Comma rest e f = let d = drop_more s i 0 l in let k : get_or s i 0 ≡ 44 = cc in n k
no_mark s i l n m Line rest e f =
    let d = drop_more s i 0 l in
    let k : get_or s i 0 ≡ 13 = cc in
    let t : drop (i + 1) s ≡ 10 ∷ rest = cc in
    let long = length-drop (i + 1) s in
    let had = ap length t in
    let inside : i + 1 < length s = omega arith in
    let g = drop_more s (i + 1) 0 inside in
    let h : get_or s (i + 1) 0 ≡ 10 = cc in
    m (inside, k, h)
no_mark s i l n m End rest e f = let d = drop_more s i 0 l in let b : get_or s i 0 ∷ drop (i + 1) s ≡ [] = cc in let z : ◌≡◌ {A = ℕ} 0 1 = cc in omega arith

-- the bytes from `from` on are an escaped content, and then rest
pub record EscapedBefore (s : List ℕ) (from : ℕ) (rest : List ℕ) : Type 0 where
  pub content : List ℕ
  pub split : drop from s ≡ escape content ++ rest

escaped_more : (s : List ℕ) (from : ℕ) (rest piece after : List ℕ) (b : ℕ) → EscapedBefore s from rest → escape (b ∷ []) ≡ piece → rest ≡ piece ++ after → EscapedBefore s from after
escaped_more s from rest piece after b h e k = record {
  content = h.content ++ b ∷ [];
  split = h.split ∙ ap (λ u. escape h.content ++ u) (k ∙ ap (λ u. u ++ after) (sym e)) ∙ sym (append_assoc (escape h.content) (escape (b ∷ [])) after) ∙ ap (λ u. u ++ after) (sym (escape_append h.content (b ∷ [])));
}

pub escaped_other : (s : List ℕ) (from : ℕ) (rest : List ℕ) → EscapedBefore s from rest → 0 < length rest → (get_or rest 0 0 ≡ 34 → ⊥) → EscapedBefore s from (take (length rest - 1) (drop 1 rest))
escaped_other s from rest h l n = rw (take_rest rest 1) (escaped_more s from rest (get_or rest 0 0 ∷ []) (drop 1 rest) (get_or rest 0 0) h (escape_other [] (get_or rest 0 0) n) (drop_more rest 0 0 l))

pub escaped_quote : (s : List ℕ) (from : ℕ) (rest : List ℕ) → EscapedBefore s from rest → 1 < length rest → get_or rest 0 0 ≡ 34 → get_or rest 1 0 ≡ 34 → EscapedBefore s from (take (length rest - 2) (drop 2 rest))
escaped_quote s from rest h l e f =
    let d : rest ≡ get_or rest 0 0 ∷ drop 1 rest = drop_more rest 0 0 (omega arith) in
    let g : drop 1 rest ≡ get_or rest 1 0 ∷ drop 2 rest = drop_more rest 1 0 l in
    let two : rest ≡ 34 ∷ (34 ∷ drop 2 rest) = cc in
    rw (take_rest rest 2) (escaped_more s from rest (34 ∷ (34 ∷ [])) (drop 2 rest) 34 h refl two)

-- the first byte of what is left from i on
pub head_at : (s : List ℕ) (i : ℕ) → get_or (drop i s) 0 0 ≡ get_or s i 0
head_at s i = get_or-drop i s 0 0 ∙ ap (λ k. get_or s k 0) (add-zero i)

-- no quote stands at i
pub no_quote : (s : List ℕ) (i : ℕ) → (i < length s → get_or s i 0 ≡ 34 → ⊥) → NoQuote (drop i s)
no_quote s i n e =
    ⊎_elim
    (λ l. n l (sym (head_at s i) ∙ e))
    (λ l. let z : ◌≡◌ {A = ℕ} 0 34 = sym (ap (λ u. get_or u 0 0) (drop_all i s l)) ∙ e in omega arith)
    (cases_lt i (length s))

-- what is left begins with one quote, and no second follows: it closes the content
pub closes : (s : List ℕ) (from : ℕ) (rest : List ℕ) → EscapedBefore s from rest → 0 < length rest → get_or rest 0 0 ≡ 34 → (1 < length rest → get_or rest 1 0 ≡ 34 → ⊥) → Closes s from (length s - length rest)
closes s from rest h l e n =
    let i : ℕ = length s - length rest in
    let long = ap length h.split in
    let parts = length-append (escape h.content) rest in
    let a = length-drop from s in
    let at : from + length (escape h.content) ≡ i = omega arith in
    let left : drop i s ≡ rest = ap (λ k. drop k s) (sym at) ∙ sym (drop-drop (length (escape h.content)) from s) ∙ ap (drop (length (escape h.content))) h.split ∙ drop_at (escape h.content) rest _ refl in
    record {
      content = (h.content, h.split ∙ ap (λ u. escape h.content ++ u) (sym left));
      after = omega arith;
      within = omega arith;
      quote = sym (head_at s i) ∙ ap (λ u. get_or u 0 0) left ∙ e;
      once = subst NoQuote (ap (drop 1) (sym left) ∙ drop-drop 1 i s) (no_quote rest 1 n);
    }
