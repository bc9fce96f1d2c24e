-- A record handed out as two fields is a pair's record, or one with a field that writes no number. Assumes nothing.
use Rattle.std.proofs.Common.{◌≡◌, ℕ, ◌<◌, ◌⊎◌, List, [], ◌∷◌, length, get_or, drop, sym, refl, subst, inl, inr, ⊎_elim, arith}
use Rattle.text.specs.declared.field.Field.{Field}
use Rattle.text.specs.Grammar.{body, Recorded}
use Rattle.text.specs.Numbers.{value, Number, NoNumber}
use Rattle.text.specs.Taken.{Bodies, Handed}
use Rattle.text.proofs.Digits.{same_number}
use Rattle.text.proofs.Records.{record_later, took_within}
use Rattle.tables.specs.Records.{digits, NotNumbers, TakesPair}

-- a list of two
pub two_is : {X : Type 0} (xs : List X) (d : X) → length xs ≡ 2 → xs ≡ get_or xs 0 d ∷ get_or xs 1 d ∷ []
two_is [] d e = absurd (omega arith)
two_is (x ∷ []) d e = absurd (omega arith)
two_is (x ∷ y ∷ []) d e = refl
two_is (x ∷ y ∷ z ∷ xs) d e = absurd (omega arith)

-- what is said of two slots, of their two fields
pub handed_two : (text : List ℕ) (at next : ℕ) (fs : List Field) (d : Field) → length fs ≡ 2 → Handed text at fs next → Handed text at (get_or fs 0 d ∷ get_or fs 1 d ∷ []) next
handed_two text at next fs d n h = subst (λ gs. Handed text at gs next) (two_is fs d n) h

-- the contents of two fields, as a record
pub record Both (s : List ℕ) (f g : Field) (rest : List ℕ) : Type 0 where
  pub first : List ℕ
  pub second : List ℕ
  pub recorded : Recorded s (first ∷ second ∷ []) rest
  pub user : f.bytes.now ≡ body f.quoted first
  pub role : g.bytes.now ≡ body g.quoted second

both_of : (s rest : List ℕ) (f g : Field) (cs : List (List ℕ)) → Recorded s cs rest → Bodies (f ∷ g ∷ []) cs → Both s f g rest
both_of s rest f g [] r b = absurd b
both_of s rest f g (c ∷ []) r b = absurd b.1
both_of s rest f g (c ∷ d ∷ []) r b = record { first = c; second = d; recorded = r; user = b.0; role = b.1.0 }
both_of s rest f g (c ∷ d ∷ e ∷ cs) r b = absurd b.1.1

module _ (text : List ℕ) (at next : ℕ) (f g : Field) (h : Handed text at (f ∷ g ∷ []) next) where
  both : Both (drop at text) f g (drop next text)
  both = both_of _ _ f g h.contents h.recorded h.bodies

  pub takes_pair : (user role : ℕ) → at < length text → Number digits f.bytes.now user → Number digits g.bytes.now role → TakesPair text at user role next
  takes_pair user role l n m = record {
    left = l;
    pair = record {
      first = both.first;
      second = both.second;
      recorded = both.recorded;
      user = (same_number digits f.quoted both.first user).0 (subst (λ c. Number digits c user) both.user n);
      role = (same_number digits g.quoted both.second role).0 (subst (λ c. Number digits c role) both.role m);
    };
    onward = record_later text at h.end next _ l h.took;
    within = took_within text at h.end next _ h.took;
  }

  -- a content that writes a number stands in a field that writes it
  none_in : (k : Field) (c : List ℕ) → k.bytes.now ≡ body k.quoted c → NoNumber digits k.bytes.now → NoNumber digits c
  none_in k c e n m =
      let b = (same_number digits k.quoted c (value c)).1 (record { numeral = m; means = refl }) in
      n (subst (λ d. Number digits d (value c)) (sym e) b).numeral

  pub not_numbers : NoNumber digits f.bytes.now ⊎ NoNumber digits g.bytes.now → NotNumbers (drop at text)
  not_numbers n = record {
    first = both.first;
    second = both.second;
    rest = drop next text;
    recorded = both.recorded;
    none = ⊎_elim (λ a. inl (none_in f both.first both.user a)) (λ b. inr (none_in g both.second both.role b)) n;
  }
