-- A script is its first line, the line's end, and the rest. Assumes nothing.
use Rattle.std.proofs.Common.{◌≡◌, ℕ, ◌+◌, ◌-◌, ◌<◌, List, [], ◌∷◌, ◌++◌, length, get_or, take, drop, Some, None, Option, sym, refl, ap, ◌∙◌, inl, inr, eq-zero-or-pos, arith, Bor, MatchOption, ◌≢◌}
use Rattle.std.specs.List.{HoldsAt, AllWithin}
use Rattle.std.specs.Option.{unwrap_or}
use Rattle.std.proofs.lemmas.List.{get_or-take, get_or_past, take-append-drop, drop_more, length-take-le}
use Rattle.script.specs.Lines.{NoLf, FirstLf, WithoutCr, FirstLine}

-- the bytes before the first LF
before_lf : (s : List ℕ) (i : ℕ) → FirstLf s i → NoLf (take i s)
before_lf s i f k e =
    elim (eq-zero-or-pos (i - k)) [
      | inr p ↦
          let l : k < i = omega arith in
          f.none_before k l (sym (get_or-take i s k 0 l) ∙ e)
      | inl g ↦
          let n : length (take i s) ≡ i = length-take-le i s (let h = f.within in omega arith) in
          let z : get_or (take i s) k 0 ≡ 0 = get_or_past (take i s) k 0 (omega arith) in
          omega arith
    ]

-- bytes of which none is an LF
none_lf : (s : List ℕ) → AllWithin (λ b. b ≢ 10) s 0 (length s) → NoLf s
none_lf s none k e =
    elim (eq-zero-or-pos (length s - k)) [
      | inr p ↦ none k 0 (omega arith) (omega arith) e
      | inl g ↦ let z : get_or s k 0 ≡ 0 = get_or_past s k 0 (omega arith) in omega arith
    ]

-- what a search for the first LF finds
pub first_found : (s : List ℕ) (r : Option ℕ) → MatchOption r (AllWithin (λ b. b ≢ 10) s 0 (length s)) (λ i. (i < length s) × HoldsAt (λ b. b ≡ 10) s i × AllWithin (λ b. b ≢ 10) s 0 i) → MatchOption r (NoLf s) (λ i. FirstLf s i)
first_found s None none = none_lf s none
first_found s (Some i) h = record { within = h.0; here = h.1 0; none_before = λ k l. h.2 k 0 (omega arith) l }

-- a line whose end may be stripped of a CR
pub bare_line : (typed : Bor (List ℕ)) (r : Option (Bor (List ℕ))) → MatchOption r ((front : List ℕ) → typed.now ≢ front ++ (13 ∷ [])) (λ x. typed.now ≡ x.now ++ (13 ∷ [])) → WithoutCr typed.now (unwrap_or r typed).now
bare_line typed None none = inl (refl, none)
bare_line typed (Some x) e = inr e

cut_at : (s : List ℕ) (i : ℕ) → FirstLf s i → s ≡ take i s ++ (10 ∷ drop (i + 1) s)
cut_at s i f =
    let there : drop i s ≡ 10 ∷ drop (i + 1) s = drop_more s i 0 f.within ∙ ap (λ b. b ∷ drop (i + 1) s) f.here in
    sym (take-append-drop i s) ∙ ap (λ t. take i s ++ t) there

-- the first of several lines
pub line_before : (s line : List ℕ) (i : ℕ) → FirstLf s i → WithoutCr (take i s) line → FirstLine s line (drop (i + 1) s)
line_before s line i f w = record { typed = take i s; no_lf = before_lf s i f; cut = inl (cut_at s i f, w) }

-- the last line, which has no LF
pub last_line : (s : List ℕ) → NoLf s → FirstLine s s []
last_line s n = record { typed = s; no_lf = n; cut = inr (refl, refl, refl) }
