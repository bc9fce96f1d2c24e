-- How many members sets have. Assumes nothing.
use Rattle.std.proofs.Common.{◌≡◌, ℕ, suc, ◌+◌, ◌*◌, ◌/◌, ◌%◌, ◌^◌, ◌≤◌, cond, eqb, ◌⊎◌, List, [], ◌∷◌, length, get_or, sym, refl, ap, ◌∙◌, subst, inl, inr, zero-le, le_trans, mod-lt, zero-lt-suc, add-mul, one-mul, arith, pow_pos}
use lib.Bits.{bit_and, bit_or, bit_xor}
use lib.Arith.{bin_ind}
use lib.Count.{ones, ones_step, ones_cat}
use Rattle.std.proofs.lemmas.List.{get_or_past}
use Rattle.std.proofs.lemmas.Bool.{cases_eq, eq-eqb, ne_eqb}
use Rattle.terms.specs.Sets.{In, Within, Difference, union}
use Rattle.terms.proofs.Bits.{bit_first, bit_next, in_and, in_both, in_or, in_or_l, in_or_r, in_one_only, less_gone, less_back}

-- a part of a set has no more numbers
low_le : (a b : ℕ) → Within a b → a % 2 ≤ b % 2
low_le a b h = elim (cases_eq (a % 2) 1) [
  | inl e ↦ omega (arith, h 0 (bit_first a ∙ e), bit_first b)
  | inr n ↦ let z : a % 2 ≡ 0 = omega (arith, mod-lt a (zero-lt-suc 1)) in omega arith
]

pub ones_none : ones 0 ≡ 0
unfolding ones
ones_none = refl

pub ones_mono : (a b : ℕ) → Within a b → ones a ≤ ones b
ones_mono = bin_ind (λ n. (b : ℕ) → Within n b → ones n ≤ ones b) (λ b h. omega (arith, ones_none))
    (λ n ih b h. omega (
      arith,
      ones_step n,
      ones_step b,
      low_le n b h,
      ih (b / 2) (λ k i. sym (bit_next b k) ∙ h (suc k) (bit_next n k ∙ i)),
    ))

-- ---- two sets that have no number in common, within a third
apart_low : (a b c : ℕ) → Within a c → Within b c → ((k : ℕ) → In k a → In k b → ⊥) → a % 2 + b % 2 ≤ c % 2
apart_low a b c h i n = elim (cases_eq (a % 2) 1) [
  | inl e ↦ elim (cases_eq (b % 2) 1) [
    | inl f ↦ absurd (n 0 (bit_first a ∙ e) (bit_first b ∙ f))
    | inr g ↦ omega (arith, h 0 (bit_first a ∙ e), bit_first c, mod-lt b (zero-lt-suc 1))
  ]
  | inr g ↦ elim (cases_eq (b % 2) 1) [
    | inl f ↦ omega (arith, i 0 (bit_first b ∙ f), bit_first c, mod-lt a (zero-lt-suc 1))
    | inr g2 ↦ omega (arith, mod-lt a (zero-lt-suc 1), mod-lt b (zero-lt-suc 1))
  ]
]

half_within : (a c : ℕ) → Within a c → Within (a / 2) (c / 2)
half_within a c h k i = sym (bit_next c k) ∙ h (suc k) (bit_next a k ∙ i)

pub ones_apart : (c a b : ℕ) → Within a c → Within b c → ((k : ℕ) → In k a → In k b → ⊥) → ones a + ones b ≤ ones c
ones_apart = bin_ind (λ c. (a b : ℕ) → Within a c → Within b c → ((k : ℕ) → In k a → In k b → ⊥) → ones a + ones b ≤ ones c)
    (λ a b h i n. omega (arith, ones_none, ones_mono a 0 h, ones_mono b 0 i))
    (λ c ih a b h i n. omega (
      arith,
      ones_step a,
      ones_step b,
      ones_step c,
      apart_low a b c h i n,
      ih (a / 2) (b / 2) (half_within a c h) (half_within b c i) (λ k x y. n (suc k) (bit_next a k ∙ x) (bit_next b k ∙ y)),
    ))

-- ---- a set within two others together
either_low : (c a b : ℕ) → ((k : ℕ) → In k c → In k a ⊎ In k b) → c % 2 ≤ a % 2 + b % 2
either_low c a b h = elim (cases_eq (c % 2) 1) [
  | inl e ↦ elim (h 0 (bit_first c ∙ e)) [ inl x ↦ omega (arith, bit_first a, mod-lt c (zero-lt-suc 1)) | inr y ↦ omega (arith, bit_first b, mod-lt c (zero-lt-suc 1)) ]
  | inr n ↦ omega (arith, mod-lt c (zero-lt-suc 1))
]

pub ones_either : (c a b : ℕ) → ((k : ℕ) → In k c → In k a ⊎ In k b) → ones c ≤ ones a + ones b
ones_either = bin_ind (λ c. (a b : ℕ) → ((k : ℕ) → In k c → In k a ⊎ In k b) → ones c ≤ ones a + ones b)
    (λ a b h. omega (arith, ones_none))
    (λ c ih a b h. omega (
      arith,
      ones_step a,
      ones_step b,
      ones_step c,
      either_low c a b h,
      ih (a / 2) (b / 2) (λ k i. elim (h (suc k) (bit_next c k ∙ i)) [ inl x ↦ inl (sym (bit_next a k) ∙ x) | inr y ↦ inr (sym (bit_next b k) ∙ y) ]),
    ))

-- ---- one number more, and one less
ones_one : (r : ℕ) → ones (2 ^ r) ≡ 1
ones_one r = ap ones (omega (arith, one-mul (2 ^ r))) ∙ ones_cat r 1 0 (pow_pos r) ∙ omega (arith, ones_none, ones_step 1)

pub ones_with : (w r : ℕ) → (In r w → ⊥) → ones (bit_or w (2 ^ r)) ≡ ones w + 1
ones_with w r n =
    let most = ones_either (bit_or w (2 ^ r)) w (2 ^ r) (in_or w (2 ^ r)) in
    let least = ones_apart (bit_or w (2 ^ r)) w (2 ^ r) (in_or_l w (2 ^ r)) (in_or_r w (2 ^ r)) (λ k h i. n (subst (λ x. In x w) (in_one_only r k i) h)) in
    omega (arith, ones_one r)

pub ones_less : (w r : ℕ) → In r w → ones (bit_xor w (2 ^ r)) + 1 ≡ ones w
ones_less w r h = sym (ones_with (bit_xor w (2 ^ r)) r (λ i. omega (arith, less_gone w r h))) ∙ ap ones (less_back w r h)

-- ---- rows of which each gives at most g of q: those of w together give at most g for each
row_in : (row w : ℕ) → w % 2 ≡ 1 → cond (eqb (w % 2) 1) row 0 ≡ row
row_in row w e = ap (λ t. cond t row 0) (eq-eqb (w % 2) 1 e)

row_out : (row w : ℕ) → (w % 2 ≡ 1 → ⊥) → cond (eqb (w % 2) 1) row 0 ≡ 0
row_out row w n = ap (λ t. cond t row 0) (ne_eqb (w % 2) 1 n)

none_and : (q : ℕ) → ones (bit_and 0 q) ≡ 0
none_and q = omega (arith, ones_none, ones_mono (bit_and 0 q) 0 (λ k h. (in_and 0 q k h).0))

row_few : (row w q g : ℕ) → ones (bit_and row q) ≤ g → ones (bit_and (cond (eqb (w % 2) 1) row 0) q) ≤ w % 2 * g
row_few row w q g h = elim (cases_eq (w % 2) 1) [
  | inl e ↦ subst (λ x. ones (bit_and x q) ≤ w % 2 * g) (sym (row_in row w e)) (subst (λ x. ones (bit_and row q) ≤ x * g) (sym e) (omega arith))
  | inr n ↦ subst (λ x. ones (bit_and x q) ≤ w % 2 * g) (sym (row_out row w n)) (subst (λ x. x ≤ w % 2 * g) (sym (none_and q)) zero-le)
]

rows_few : (rows : List ℕ) (w q g : ℕ) → ((i : ℕ) → ones (bit_and (get_or rows i 0) q) ≤ g) → ones (bit_and (union rows w) q) ≤ ones w * g
rows_few [] w q g h = subst (λ x. x ≤ ones w * g) (sym (none_and q)) zero-le
rows_few (row ∷ rows) w q g h =
    let f = cond (eqb (w % 2) 1) row 0 in
    let u = union rows (w / 2) in
    let both : ones (bit_and (bit_or f u) q) ≤ ones (bit_and f q) + ones (bit_and u q) = ones_either (bit_and (bit_or f u) q) (bit_and f q) (bit_and u q) (λ k i.
    let x = in_and (bit_or f u) q k i in
    elim (in_or f u k x.0) [ inl y ↦ inl (in_both f q k y x.1) | inr y ↦ inr (in_both u q k y x.1) ]) in
    let one = row_few row w q g (h 0) in
    let rest = rows_few rows (w / 2) q g (λ i. h (suc i)) in
    let sum : ones w * g ≡ w % 2 * g + ones (w / 2) * g = ap (λ x. x * g) (ones_step w) ∙ add-mul (w % 2) (ones (w / 2)) g in
    omega arith

pub ones_rows : (rows : List ℕ) (w q g : ℕ) → ((i : ℕ) → ones (bit_and (get_or rows i 0) q) ≤ g) → Within q (union rows w) → ones q ≤ ones w * g
ones_rows rows w q g h i = le_trans (ones_mono q (bit_and (union rows w) q) (λ k x. in_both (union rows w) q k (i k x) x)) (rows_few rows w q g h)

pub past_none : (rows : List ℕ) (a q : ℕ) → length rows ≤ a → ones (bit_and (get_or rows a 0) q) ≡ 0
past_none rows a q h = subst (λ x. ones (bit_and x q) ≡ 0) (sym (get_or_past rows a 0 h)) (none_and q)

pub ones_rest : (w k v : ℕ) → In k w → Difference w (2 ^ k) v → ones v + 1 ≤ ones w
ones_rest w k v h d = omega (
  arith,
  ones_one k,
  ones_apart w (2 ^ k) v (λ j i. subst (λ x. In x w) (sym (in_one_only k j i)) h) d.inside d.apart,
)
