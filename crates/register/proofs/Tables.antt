-- Sets of pairs: one pair more, one pair less, none, and how many pairs and members there are. Assumes nothing.
use Rattle.std.proofs.Common.{◌≡◌, ℕ, suc, ◌+◌, ◌*◌, ◌^◌, ◌<◌, ◌≤◌, ◌⊎◌, List, [], ◌∷◌, length, take, set, replicate, sum_by, sym, refl, ap, ◌∙◌, subst, inl, inr, arith}
use lib.Bits.{bit_or, bit_xor}
use lib.Count.{ones, ones-le}
use Rattle.std.proofs.lemmas.List.{ext_get_or, get_or-set_same, get_or-set_other, get_or_past, get_or-replicate, length-replicate}
use Rattle.std.proofs.lemmas.List.Sums.{sum_by-cons, sum_by_more, sum_by-set}
use Rattle.std.proofs.lemmas.Bool.{cases_eq, cases_lt}
use Rattle.terms.specs.Sets.{bit, In}
use Rattle.terms.proofs.Bits.{bit_zero, bit_off, bit_high, same_digits, with_new, with_other, less_gone, less_other, in_or_l, none_in}
use Rattle.terms.proofs.Sizes.{ones_none, ones_mono, ones_with, ones_less}
use Rattle.register.specs.Pairs.{row, Has, pairs, having, with_pair, less_pair}

-- ---- one row of a table is another
pub row_same : (t : List ℕ) (u w : ℕ) → u < length t → row (set t u w) u ≡ w
row_same t u w h = get_or-set_same t u w 0 h

pub row_other : (t : List ℕ) (u v w : ℕ) → (v ≡ u → ⊥) → row (set t u w) v ≡ row t v
row_other t u v w ne = get_or-set_other t u v w 0 ne

pub row_past : (t : List ℕ) (u : ℕ) → length t ≤ u → row t u ≡ 0
row_past t u h = get_or_past t u 0 h

-- what holds of the new row and of the old ones holds of each
pub each_row : (P : ℕ → Type 0) (t : List ℕ) (u w : ℕ) → u < length t → P w → ((v : ℕ) → P (row t v)) → (v : ℕ) → P (row (set t u w) v)
each_row P t u w h new old v = elim (cases_eq v u) [
  | inl e ↦ subst (λ x. P (row (set t u w) x)) (sym e) (subst P (sym (row_same t u w h)) new)
  | inr ne ↦ subst P (sym (row_other t u v w ne)) (old v)
]

-- the pairs of one row, by those of the old and the new word
same_user : (t : List ℕ) (u w v k : ℕ) → u < length t → v ≡ u → bit (row (set t u w) v) k ≡ bit w k
same_user t u w v k low e = ap (λ x. bit (row (set t u w) x) k) e ∙ ap (λ x. bit x k) (row_same t u w low)

module _ (t : List ℕ) (u r : ℕ) (low : u < length t) where
  -- ---- one pair more
  pub with_has : Has (with_pair t u r) u r
  with_has = same_user t u (bit_or (row t u) (2 ^ r)) u r low refl ∙ with_new (row t u) r

  pub with_old : (v k : ℕ) → Has t v k → Has (with_pair t u r) v k
  with_old v k h = elim (cases_eq v u) [
    | inl e ↦ same_user t u (bit_or (row t u) (2 ^ r)) v k low e ∙ in_or_l (row t u) (2 ^ r) k (subst (λ x. Has t x k) e h)
    | inr ne ↦ subst (In k) (sym (row_other t u v (bit_or (row t u) (2 ^ r)) ne)) h
  ]

  pub with_only : (v k : ℕ) → Has (with_pair t u r) v k → Has t v k ⊎ ((v ≡ u) × (k ≡ r))
  with_only v k h = elim (cases_eq v u) [
    | inl e ↦ elim (cases_eq k r) [
      | inl q ↦ inr (e, q)
      | inr ne ↦ inl (subst (λ x. Has t x k) (sym e) (sym (with_other (row t u) r k ne) ∙ sym (same_user t u (bit_or (row t u) (2 ^ r)) v k low e) ∙ h))
    ]
    | inr ne ↦ inl (subst (In k) (row_other t u v (bit_or (row t u) (2 ^ r)) ne) h)
  ]

  pub with_rest : (v k : ℕ) → ((v ≡ u) × (k ≡ r) → ⊥) → bit (row (with_pair t u r) v) k ≡ bit (row t v) k
  with_rest v k ne = elim (cases_eq v u) [
    | inl e ↦ same_user t u (bit_or (row t u) (2 ^ r)) v k low e ∙ with_other (row t u) r k (λ q. ne (e, q)) ∙ ap (λ x. bit (row t x) k) (sym e)
    | inr other ↦ ap (λ w. bit w k) (row_other t u v (bit_or (row t u) (2 ^ r)) other)
  ]

  module _ (free : Has t u r → ⊥) where
    pub with_pairs : pairs (with_pair t u r) ≡ pairs t + 1
    with_pairs = omega (arith, sum_by-set ones t u (bit_or (row t u) (2 ^ r)) 0 low, ones_with (row t u) r free)

    pub with_members : having r (with_pair t u r) ≡ having r t + 1
    with_members = omega (arith, sum_by-set (λ w. bit w r) t u (bit_or (row t u) (2 ^ r)) 0 low, with_new (row t u) r, bit_off (row t u) r free)

  pub with_others : (k : ℕ) → (k ≡ r → ⊥) → having k (with_pair t u r) ≡ having k t
  with_others k ne = omega (arith, sum_by-set (λ w. bit w k) t u (bit_or (row t u) (2 ^ r)) 0 low, with_other (row t u) r k ne)

  -- ---- one pair less
  pub less_rest : (v k : ℕ) → ((v ≡ u) × (k ≡ r) → ⊥) → bit (row (less_pair t u r) v) k ≡ bit (row t v) k
  less_rest v k ne = elim (cases_eq v u) [
    | inl e ↦ same_user t u (bit_xor (row t u) (2 ^ r)) v k low e ∙ less_other (row t u) r k (λ q. ne (e, q)) ∙ ap (λ x. bit (row t x) k) (sym e)
    | inr other ↦ ap (λ w. bit w k) (row_other t u v (bit_xor (row t u) (2 ^ r)) other)
  ]

  module _ (has : Has t u r) where
    pub less_bit : bit (row (less_pair t u r) u) r ≡ 0
    less_bit = same_user t u (bit_xor (row t u) (2 ^ r)) u r low refl ∙ less_gone (row t u) r has

    pub less_has : Has (less_pair t u r) u r → ⊥
    less_has h = omega (arith, less_bit)

    pub less_stays : (v k : ℕ) → Has t v k → Has (less_pair t u r) v k ⊎ ((v ≡ u) × (k ≡ r))
    less_stays v k h = elim (cases_eq v u) [
      | inl e ↦ elim (cases_eq k r) [
        | inl q ↦ inr (e, q)
        | inr ne ↦ inl (same_user t u (bit_xor (row t u) (2 ^ r)) v k low e ∙ less_other (row t u) r k ne ∙ subst (λ x. Has t x k) e h)
      ]
      | inr ne ↦ inl (subst (In k) (sym (row_other t u v (bit_xor (row t u) (2 ^ r)) ne)) h)
    ]

    pub less_only : (v k : ℕ) → Has (less_pair t u r) v k → Has t v k
    less_only v k h = elim (cases_eq v u) [
      | inl e ↦ elim (cases_eq k r) [
        | inl q ↦ subst (λ x. Has t x k) (sym e) (subst (λ x. Has t u x) (sym q) has)
        | inr ne ↦ subst (λ x. Has t x k) (sym e) (sym (less_other (row t u) r k ne) ∙ sym (same_user t u (bit_xor (row t u) (2 ^ r)) v k low e) ∙ h)
      ]
      | inr ne ↦ subst (In k) (row_other t u v (bit_xor (row t u) (2 ^ r)) ne) h
    ]

    pub less_pairs : pairs (less_pair t u r) + 1 ≡ pairs t
    less_pairs = omega (arith, sum_by-set ones t u (bit_xor (row t u) (2 ^ r)) 0 low, ones_less (row t u) r has)

    pub less_members : having r (less_pair t u r) + 1 ≡ having r t
    less_members = omega (arith, sum_by-set (λ w. bit w r) t u (bit_xor (row t u) (2 ^ r)) 0 low, less_gone (row t u) r has)

  pub less_others : (k : ℕ) → (k ≡ r → ⊥) → having k (less_pair t u r) ≡ having k t
  less_others k ne = omega (arith, sum_by-set (λ w. bit w k) t u (bit_xor (row t u) (2 ^ r)) 0 low, less_other (row t u) r k ne)

-- ---- rows of 64 bits that have the same bits are equal
pub same_rows : (s t : List ℕ) → length s ≡ length t → ((u : ℕ) → row s u < 2 ^ 64) → ((u : ℕ) → row t u < 2 ^ 64)
    → ((u k : ℕ) → u < length s → k < 64 → bit (row s u) k ≡ bit (row t u) k) → s ≡ t
same_rows s t n f g h = ext_get_or 0 s t n (λ u low. same_digits (row s u) (row t u) (λ k. elim (cases_lt k 64) [
  | inl l ↦ h u k low l
  | inr b ↦ bit_high (row s u) 64 k (f u) b ∙ sym (bit_high (row t u) 64 k (g u) b)
]))

-- ---- a part of a set of pairs has no more of them
sum_none : (f : ℕ → ℕ) → f 0 ≡ 0 → (xs : List ℕ) → ((u : ℕ) → f (row xs u) ≤ f 0) → sum_by f xs ≡ 0
sum_none f z [] h = refl
sum_none f z (x ∷ xs) h = omega (arith, sum_by-cons f x xs, h 0, sum_none f z xs (λ u. h (suc u)))

sum_mono : (f : ℕ → ℕ) → f 0 ≡ 0 → (xs ys : List ℕ) → ((u : ℕ) → f (row xs u) ≤ f (row ys u)) → sum_by f xs ≤ sum_by f ys
sum_mono f z [] ys h = omega arith
sum_mono f z (x ∷ xs) [] h = omega (arith, sum_none f z (x ∷ xs) (λ u. h u))
sum_mono f z (x ∷ xs) (y ∷ ys) h = omega (arith, sum_by-cons f x xs, sum_by-cons f y ys, h 0, sum_mono f z xs ys (λ u. h (suc u)))

module _ (t a : List ℕ) (part : (u k : ℕ) → Has t u k → Has a u k) where
  pub part_pairs : pairs t ≤ pairs a
  part_pairs = sum_mono ones ones_none t a (λ u. ones_mono (row t u) (row a u) (part u))

  pub part_members : (r : ℕ) → having r t ≤ having r a
  part_members r = sum_mono (λ w. bit w r) (bit_zero r) t a (λ u. elim (cases_eq (bit (row t u) r) 1) [
    | inl e ↦ omega (arith, part u r e)
    | inr ne ↦ omega (arith, bit_off (row t u) r ne)
  ])

-- ---- no pairs
pub none_row : (n u : ℕ) → row (replicate n 0) u ≡ 0
none_row n u = elim (cases_lt u n) [ inl l ↦ get_or-replicate n u 0 0 l | inr g ↦ get_or_past (replicate {A = ℕ} n 0) u 0 (simp length-replicate g) ]

pub none_has : (n u k : ℕ) → Has (replicate n 0) u k → ⊥
none_has n u k h = none_in k (subst (In k) (none_row n u) h)

pub none_pairs : (n : ℕ) → pairs (replicate n 0) ≡ 0
none_pairs n = sum_none ones ones_none (replicate n 0) (λ u. omega (arith, ap ones (none_row n u)))

pub none_members : (n r : ℕ) → having r (replicate n 0) ≡ 0
none_members n r = sum_none (λ w. bit w r) (bit_zero r) (replicate n 0) (λ u. omega (arith, ap (λ w. bit w r) (none_row n u)))

-- ---- rows of 64 bits have at most 64 pairs each
pub pairs_most : (t : List ℕ) → ((u : ℕ) → row t u < 2 ^ 64) → pairs t ≤ 64 * length t
pairs_most [] h = omega arith
pairs_most (w ∷ t) h = omega (arith, sum_by-cons ones w t, ones-le 64 w (h 0), pairs_most t (λ u. h (suc u)))

-- ---- counting row after row
pub pairs_more : (t : List ℕ) (i n : ℕ) → i < length t → n ≡ pairs (take i t) → n + ones (row t i) ≡ pairs (take (i + 1) t)
pairs_more t i n h e = ap (λ x. x + ones (row t i)) e ∙ sym (sum_by_more ones t i 0 h)

pub members_more : (t : List ℕ) (i r n : ℕ) → i < length t → n ≡ having r (take i t) → n + bit (row t i) r ≡ having r (take (i + 1) t)
members_more t i r n h e = ap (λ x. x + bit (row t i) r) e ∙ sym (sum_by_more (λ w. bit w r) t i 0 h)
