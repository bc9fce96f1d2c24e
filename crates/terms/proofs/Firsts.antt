-- The laws of the first row that applies. Assumes nothing.
use Rattle.std.proofs.Common.{◌≡◌, ℕ, zero, suc, ◌<◌, Bool, true, false, ◌⊎◌, Some, None, Option, sym, refl, ap, ◌∙◌, subst, inl, inr, arith}
use Rattle.std.proofs.lemmas.Bool.{cases_eq}
use Rattle.terms.specs.Refusals.{or_else, when}
use Rattle.terms.specs.Firsts.{first_below}

-- ---- single rows

pub some_none : {X : Type 0} {A : Type 0} (o : Option X) (x : X) → o ≡ Some x → o ≡ None → A
some_none o x p q = cc

pub option_cases : {X : Type 0} (o : Option X) → (o ≡ None) ⊎ ((x : X) × (o ≡ Some x))
option_cases None = inl refl
option_cases (Some x) = inr (x, refl)

pub else_none : {X : Type 0} (a b : Option X) → or_else a b ≡ None → (a ≡ None) × (b ≡ None)
else_none (Some x) b e = some_none (Some x) x refl e
else_none None b e = (refl, e)

pub else_both : {X : Type 0} (a b : Option X) → a ≡ None → b ≡ None → or_else a b ≡ None
else_both a b p q = ap (λ x. or_else x b) p ∙ q

pub else_first : {X : Type 0} (a b : Option X) (x : X) → a ≡ Some x → or_else a b ≡ Some x
else_first a b x p = ap (λ y. or_else y b) p

pub else_second : {X : Type 0} (a b : Option X) (x : X) → a ≡ None → b ≡ Some x → or_else a b ≡ Some x
else_second a b x p q = ap (λ y. or_else y b) p ∙ q

pub when_none : {X : Type 0} (b : Bool) (x : X) → when b x ≡ None → b ≡ false
when_none true x e = some_none (Some x) x refl e
when_none false x e = refl

pub none_when : {X : Type 0} (b : Bool) (x : X) → b ≡ false → when b x ≡ None
none_when b x e = ap (λ y. when y x) e

pub some_when : {X : Type 0} (b : Bool) (x : X) → b ≡ true → when b x ≡ Some x
some_when b x e = ap (λ y. when y x) e

-- ---- numbered rows

module _ {X : Type 0} (f : ℕ → Option X) where
  pub first_nothing : first_below f 0 ≡ None
  unfolding first_below
  first_nothing = refl

  first_suc : (n : ℕ) → first_below f (suc n) ≡ or_else (first_below f n) (f n)
  unfolding first_below
  first_suc n = refl

  -- a row that applies after none before it is the first, however many follow
  pub first_here : (n m : ℕ) (x : X) → n < m → first_below f n ≡ None → f n ≡ Some x → first_below f m ≡ Some x
  first_here n zero x l p q = absurd (omega arith)
  first_here n (suc m) x l p q = elim (cases_eq n m) [
    | inl e ↦ subst (λ k. first_below f (suc k) ≡ Some x) e (first_suc n ∙ else_second (first_below f n) (f n) x p q)
    | inr ne ↦ first_suc m ∙ else_first (first_below f m) (f m) x (first_here n m x (omega (arith, ne)) p q)
  ]

  -- no row applies
  pub none_below : (n : ℕ) → first_below f n ≡ None → (k : ℕ) → k < n → f k ≡ None
  none_below zero p k l = absurd (omega arith)
  none_below (suc n) p k l =
      let a = else_none (first_below f n) (f n) (sym (first_suc n) ∙ p) in
      elim (cases_eq k n) [ inl e ↦ subst (λ j. f j ≡ None) (sym e) a.1 | inr ne ↦ none_below n a.0 k (omega (arith, ne)) ]

  pub all_none : (n : ℕ) → ((k : ℕ) → k < n → f k ≡ None) → first_below f n ≡ None
  all_none zero h = first_nothing
  all_none (suc n) h = first_suc n ∙ else_both (first_below f n) (f n) (all_none n (λ k l. h k (omega arith))) (h n (omega arith))

  -- the row that applies, and that none does before it
  pub some_below : (n : ℕ) (x : X) → first_below f n ≡ Some x → (k : ℕ) × (k < n) × (f k ≡ Some x) × (first_below f k ≡ None)
  some_below zero x p = some_none (first_below f 0) x p first_nothing
  some_below (suc n) x p = elim (option_cases (first_below f n)) [
    | inl none ↦ (n, omega arith, sym (ap (λ y. or_else y (f n)) none) ∙ sym (first_suc n) ∙ p, none)
    | inr some ↦
        let same : some.0 ≡ x = (let a = sym (else_first (first_below f n) (f n) some.0 some.1) ∙ sym (first_suc n) ∙ p in cc) in
        let r = some_below n x (subst (λ y. first_below f n ≡ Some y) same some.1) in
        (r.0, (let l = r.1 in omega arith), r.2, r.3)
  ]

-- rows that are equal one by one
pub first_same : {X : Type 0} (f g : ℕ → Option X) (n : ℕ) → ((k : ℕ) → k < n → f k ≡ g k) → first_below f n ≡ first_below g n
first_same f g zero h = first_nothing f ∙ sym (first_nothing g)
first_same f g (suc n) h =
    first_suc f n ∙ ap (λ x. or_else x (f n)) (first_same f g n (λ k l. h k (omega arith)))
    ∙ ap (or_else (first_below g n)) (h n (omega arith)) ∙ sym (first_suc g n)
