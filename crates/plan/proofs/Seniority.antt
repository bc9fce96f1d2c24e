-- One pair more in a seniority. Assumes nothing.
use Rattle.std.proofs.Common.{◌≡◌, ℕ, ◌^◌, ◌<◌, ◌≤◌, Bool, true, false, cond, eqb, ◌⊎◌, List, get_or, sym, refl, subst, inl, inr, arith}
use lib.Bits.{bit_or}
use Rattle.std.proofs.lemmas.Bool.{cases_lt, eq-eqb, eqb-true}
use Rattle.terms.specs.Sets.{bit, In}
use Rattle.plan.specs.Order.{raised}
use Rattle.plan.specs.Order.{Over, Reflexive, Transitive, Antisymmetric}
use Rattle.terms.proofs.Bits.{in_or_l, in_or_r, in_or, in_one, in_one_only, bit_zero}

pub raised_keeps : (s g w b : ℕ) → In b w → In b (raised s g w)
raised_keeps s g w b h = elim (eqb (bit w s) 1) as (λ t. In b (cond t (bit_or w g) w)) [ true ↦ in_or_l w g b h | false ↦ h ]

pub raised_gains : (s g w b : ℕ) → In s w → In b g → In b (raised s g w)
raised_gains s g w b i h = rw (eq-eqb (bit w s) 1 i) (in_or_r w g b h)

raised_cases : (t : Bool) (s g w b : ℕ) → eqb (bit w s) 1 ≡ t → In b (cond t (bit_or w g) w) → In b w ⊎ (In s w × In b g)
raised_cases true s g w b e h = elim (in_or w g b h) [ inl p ↦ inl p | inr q ↦ inr (eqb-true (bit w s) 1 e, q) ]
raised_cases false s g w b e h = inl h

pub raised_only : (s g w b : ℕ) → In b (raised s g w) → In b w ⊎ (In s w × In b g)
raised_only s g w b h = raised_cases (eqb (bit w s) 1) s g w b refl h

pub raised_zero : (s g : ℕ) → raised s g 0 ≡ 0
raised_zero s g = rw (bit_zero s)

module _ (rows rows' : List ℕ) (s j : ℕ) (made : (a : ℕ) → get_or rows' a 0 ≡ raised s (get_or rows j 0) (get_or rows a 0)) where
  pub keeps : (a b : ℕ) → Over rows a b → Over rows' a b
  keeps a b h = subst (In b) (sym (made a)) (raised_keeps s (get_or rows j 0) (get_or rows a 0) b h)

  pub gains : (a b : ℕ) → Over rows a s → Over rows j b → Over rows' a b
  gains a b h i = subst (In b) (sym (made a)) (raised_gains s (get_or rows j 0) (get_or rows a 0) b h i)

  pub only : (a b : ℕ) → Over rows' a b → Over rows a b ⊎ (Over rows a s × Over rows j b)
  only a b h = raised_only s (get_or rows j 0) (get_or rows a 0) b (subst (In b) (made a) h)

  pub reflexive' : Reflexive rows → Reflexive rows'
  reflexive' re a h = keeps a a (re a h)

  module _ (tr : Transitive rows) where
    through : (a b c : ℕ) → Over rows a b ⊎ (Over rows a s × Over rows j b) → Over rows b c ⊎ (Over rows b s × Over rows j c) → Over rows' a c
    through a b c (inl p) (inl q) = keeps a c (tr (a, b, c) (p, q))
    through a b c (inl p) (inr q) = gains a c (tr (a, b, s) (p, q.0)) q.1
    through a b c (inr p) (inl q) = gains a c p.0 (tr (j, b, c) (p.1, q))
    through a b c (inr p) (inr q) = gains a c p.0 q.1

    pub transitive' : Transitive rows'
    transitive' t h = through t.0 t.1 t.2 (only t.0 t.1 h.0) (only t.1 t.2 h.1)

    -- where the junior is not yet senior to the senior
    apart : Antisymmetric rows → (Over rows j s → ⊥) → (a b : ℕ) → Over rows a b ⊎ (Over rows a s × Over rows j b) → Over rows b a ⊎ (Over rows b s × Over rows j a) → a ≡ b
    apart an no_way a b (inl p) (inl q) = an a b (p, q)
    apart an no_way a b (inl p) (inr q) = absurd (no_way (tr (j, a, s) (q.1, tr (a, b, s) (p, q.0))))
    apart an no_way a b (inr p) (inl q) = absurd (no_way (tr (j, b, s) (p.1, tr (b, a, s) (q, p.0))))
    apart an no_way a b (inr p) (inr q) = absurd (no_way (tr (j, a, s) (q.1, p.0)))

    -- where they are one role, nothing is added
    nothing : s ≡ j → (a b : ℕ) → Over rows a b ⊎ (Over rows a s × Over rows j b) → Over rows a b
    nothing e a b (inl p) = p
    nothing e a b (inr p) = tr (a, j, b) (subst (λ x. Over rows a x) e p.0, p.1)

    pub antisymmetric' : Antisymmetric rows → (s ≡ j) ⊎ (Over rows j s → ⊥) → Antisymmetric rows'
    antisymmetric' an (inl e) a b h = an a b (nothing e a b (only a b h.0), nothing e b a (only b a h.1))
    antisymmetric' an (inr n) a b h = apart an n a b (only a b h.0) (only b a h.1)

-- each role senior to itself alone
module _ (rows : List ℕ) (inside : (a : ℕ) → a < 64 → get_or rows a 0 ≡ 2 ^ a) (past : (a : ℕ) → 64 ≤ a → get_or rows a 0 ≡ 0) where
  pub alone_low : (a b : ℕ) → Over rows a b → (a ≡ b) × (a < 64)
  alone_low a b h = elim (cases_lt a 64) [
    | inl l ↦ (sym (in_one_only a b (subst (In b) (inside a l) h)), l)
    | inr g ↦ absurd (let z = subst (In b) (past a g) h in omega (arith, bit_zero b))
  ]

  pub alone : (a b : ℕ) → Over rows a b → a ≡ b
  alone a b h = (alone_low a b h).0

  pub alone_reflexive : Reflexive rows
  alone_reflexive a l = subst (In a) (sym (inside a l)) (in_one a)

  pub alone_transitive : Transitive rows
  alone_transitive t h = subst (λ x. Over rows t.0 x) (alone t.1 t.2 h.1) h.0

  pub alone_antisymmetric : Antisymmetric rows
  alone_antisymmetric a b h = alone a b h.0
