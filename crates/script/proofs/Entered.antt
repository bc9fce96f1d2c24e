-- The places of a text's fields as they are printed, one after the other. Assumes nothing.
use Rattle.std.proofs.Common.{◌≡◌, ℕ, ◌+◌, ◌<◌, ◌≤◌, Bool, true, List, [], ◌∷◌, ◌++◌, length, get_or, take, codes, decimal, sym, refl, ap, ◌∙◌, append_assoc, append-nil}
use Rattle.std.specs.declared.fmt.Formatter.{Formatter}
use Rattle.std.specs.Fmt.{IsPlainFormatter, HasWritten}
use Rattle.std.proofs.Output.{has_written_append, has_written_of_eq}
use Rattle.std.proofs.lemmas.List.{take_more, take_all}
use Rattle.script.specs.declared.fields.Place.{Place}
use Rattle.script.specs.Entries.{opening, place_text, entries, list_text}

-- whether the next place begins a record
abbrev pub opens : Bool → List Place → Bool
opens first [] = first
opens first (p ∷ ps) = opens p.last ps

abbrev pub entry : Bool → Place → List ℕ
entry first p = opening first ++ place_text p

entries_push : (first : Bool) (ps : List Place) (p : Place) → entries first (ps ++ (p ∷ [])) ≡ entries first ps ++ entry (opens first ps) p
entries_push first [] p = append-nil (entry first p)
entries_push first (q ∷ ps) p = ap (λ l. entry first q ++ l) (entries_push q.last ps p) ∙ sym (append_assoc (entry first q) (entries q.last ps) (entry (opens q.last ps) p))

opens_push : (first : Bool) (ps : List Place) (p : Place) → opens first (ps ++ (p ∷ [])) ≡ p.last
opens_push first [] p = refl
opens_push first (q ∷ ps) p = opens_push q.last ps p

pub opens_more : (ps : List Place) (i : ℕ) (d : Place) → i < length ps → (get_or ps i d).last ≡ opens true (take (i + 1) ps)
opens_more ps i d l = sym (ap (opens true) (take_more ps i d l) ∙ opens_push true (take i ps) (get_or ps i d))

module _ {W : Type 0} (took : W → List ℕ → W → Type 0) where
  -- one place on
  pub entered_more : (f g h : Formatter W) (ps : List Place) (i : ℕ) (o : List ℕ) (d : Place) → i < length ps → o ≡ opening (opens true (take i ps)) → (IsPlainFormatter f → HasWritten took f (entries true (take i ps)) g) → (IsPlainFormatter g → HasWritten took g (o ++ place_text (get_or ps i d)) h) → IsPlainFormatter f → HasWritten took f (entries true (take (i + 1) ps)) h
  entered_more f g h ps i o d l e before now plain =
      let p = get_or ps i d in
      let b = before plain in
      let whole = has_written_append took f (entries true (take i ps)) g (o ++ place_text p) h b (now b.plain) in
      let same : entries true (take i ps) ++ (o ++ place_text p) ≡ entries true (take (i + 1) ps) = ap (λ t. entries true (take i ps) ++ (t ++ place_text p)) e ∙ sym (entries_push true (take i ps) p) ∙ sym (ap (entries true) (take_more ps i d l)) in
      has_written_of_eq took f _ _ h same whole

  -- all of them, after the number of records
  pub entered_all : (f g h : Formatter W) (records : ℕ) (ps qs : List Place) (i : ℕ) → qs ≡ ps → length qs ≤ i → (IsPlainFormatter f → HasWritten took f (decimal records ++ codes " records") g) → (IsPlainFormatter g → HasWritten took g (entries true (take i qs)) h) → IsPlainFormatter f → HasWritten took f (list_text records ps) h
  unfolding list_text
  entered_all f g h records ps qs i e l start then plain =
      let x = start plain in
      let y = then x.plain in
      has_written_of_eq took f _ _ h (ap (λ t. (decimal records ++ codes " records") ++ entries true t) (take_all i qs l ∙ e)) (has_written_append took f (decimal records ++ codes " records") g (entries true (take i qs)) h x y)
