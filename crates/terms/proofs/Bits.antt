-- The bits of words, and what they say of membership. Assumes nothing.
use Rattle.std.proofs.Common.{◌≡◌, ℕ, zero, suc, ◌+◌, ◌-◌, ◌/◌, ◌%◌, ◌^◌, ◌<◌, ◌≤◌, min, max, ◌⊎◌, sym, refl, ap, ◌∙◌, subst, inl, inr, lt_of_lt_of_le, mod-lt, zero-lt-suc, one-mul, pow-suc, div-one, one-add, arith, pow_pos, pow_mono, pow-add, shr-shr}
use native.Mathlib.Nat.{div-eq_of_lt}
use lib.Bits.{bit_and, bit_or, bit_xor, differ, or_shr, and_shr, xor_shr, or_step, and_step, xor_step, xor_add_and}
use lib.Arith.{digits_mod, bin_ind}
use lib.Count.{count_trailing_zeros, under}
use lib.Pow.{pow-lt, shl-shr}
use Rattle.std.proofs.lemmas.Bool.{cases_eq, cases_lt, cases_order}
use Rattle.std.proofs.lemmas.Nat.{and_le_r}
use Rattle.terms.specs.Sets.{bit, In, Within, Lowest, Difference}

pub bit_two : (w k : ℕ) → bit w k < 2
unfolding bit
bit_two w k = mod-lt (w / 2 ^ k) (zero-lt-suc 1)

pub bit_zero : (k : ℕ) → bit 0 k ≡ 0
unfolding bit
bit_zero k = omega (arith, pow_pos k)

or_low : (a b : ℕ) → bit_or a b % 2 ≡ max (a % 2) (b % 2)
or_low a b = ap (λ x. x % 2) (or_step a b) ∙ digits_mod (bit_or (a / 2) (b / 2)) (omega (arith, mod-lt a (zero-lt-suc 1), mod-lt b (zero-lt-suc 1)))

and_low : (a b : ℕ) → bit_and a b % 2 ≡ min (a % 2) (b % 2)
and_low a b = ap (λ x. x % 2) (and_step a b) ∙ digits_mod (bit_and (a / 2) (b / 2)) (omega (arith, mod-lt a (zero-lt-suc 1), mod-lt b (zero-lt-suc 1)))

pub bit_of_or : (a b k : ℕ) → bit (bit_or a b) k ≡ max (bit a k) (bit b k)
unfolding bit
bit_of_or a b k = ap (λ x. x % 2) (or_shr a b k) ∙ or_low (a / 2 ^ k) (b / 2 ^ k)

pub bit_of_and : (a b k : ℕ) → bit (bit_and a b) k ≡ min (bit a k) (bit b k)
unfolding bit
bit_of_and a b k = ap (λ x. x % 2) (and_shr a b k) ∙ and_low (a / 2 ^ k) (b / 2 ^ k)

pub in_or_l : (a b k : ℕ) → In k a → In k (bit_or a b)
in_or_l a b k h = omega (arith, bit_of_or a b k, bit_two b k)

pub in_or_r : (a b k : ℕ) → In k b → In k (bit_or a b)
in_or_r a b k h = omega (arith, bit_of_or a b k, bit_two a k)

pub in_or : (a b k : ℕ) → In k (bit_or a b) → In k a ⊎ In k b
in_or a b k h = grind (arith, bit_of_or a b k, bit_two a k, bit_two b k)

pub in_and : (a b k : ℕ) → In k (bit_and a b) → In k a × In k b
in_and a b k h = (omega (arith, bit_of_and a b k, bit_two a k, bit_two b k), omega (arith, bit_of_and a b k, bit_two a k, bit_two b k))

pub in_both : (a b k : ℕ) → In k a → In k b → In k (bit_and a b)
in_both a b k h i = omega (arith, bit_of_and a b k)

pub bit_first : (w : ℕ) → bit w 0 ≡ w % 2
unfolding bit
bit_first w = ap (λ x. x % 2) (div-one w)

pub bit_next : (w k : ℕ) → bit w (suc k) ≡ bit (w / 2) k
unfolding bit
bit_next w k = ap (λ x. w / 2 ^ x % 2) (sym (one-add k)) ∙ ap (λ x. x % 2) (sym (shr-shr w 1 k))

pub bit_high : (w n k : ℕ) → w < 2 ^ n → n ≤ k → bit w k ≡ 0
unfolding bit
bit_high w n k h l = ap (λ x. x % 2) (div-eq_of_lt (lt_of_lt_of_le h (pow_mono l)))

-- the set with one number
pub in_one : (a : ℕ) → In a (2 ^ a)
unfolding bit
in_one a = ap (λ x. x % 2) (ap (λ x. x / 2 ^ a) (sym (one-mul (2 ^ a))) ∙ shl-shr 1 a)

one_low : (a b : ℕ) → a < b → bit (2 ^ a) b ≡ 0
unfolding bit
one_low a b h = ap (λ x. x % 2) (div-eq_of_lt (pow-lt h))

one_high : (d b : ℕ) → bit (2 ^ (suc d + b)) b ≡ 0
unfolding bit
one_high d b = ap (λ x. x / 2 ^ b % 2) (pow-add 2 (suc d) b) ∙ ap (λ x. x % 2) (shl-shr (2 ^ suc d) b) ∙ omega (arith, pow-suc 2 d)

pub in_one_only : (a b : ℕ) → In b (2 ^ a) → b ≡ a
in_one_only a b h = elim (cases_order a b) [
  | inl e ↦ sym e
  | inr s ↦ elim s [
    | inl l ↦ absurd (omega (arith, one_low a b l))
    | inr g ↦ absurd (let e : a ≡ suc (a - b - 1) + b = omega arith in omega (arith, one_high (a - b - 1) b, ap (λ x. bit (2 ^ x) b) e))
  ]
]

-- two words with the same digits are equal
pub no_digits : (w : ℕ) → ((k : ℕ) → bit w k ≡ 0) → w ≡ 0
no_digits = bin_ind (λ n. ((k : ℕ) → bit n k ≡ 0) → n ≡ 0) (λ h. refl)
    (λ n ih h. omega (arith, ih (λ k. sym (bit_next n k) ∙ h (suc k)), bit_first n, h 0))

pub same_digits : (a b : ℕ) → ((k : ℕ) → bit a k ≡ bit b k) → a ≡ b
same_digits = bin_ind (λ n. (b : ℕ) → ((k : ℕ) → bit n k ≡ bit b k) → n ≡ b)
    (λ b h. sym (no_digits b (λ k. sym (h k) ∙ bit_zero k)))
    (λ n ih b h. omega (arith, ih (b / 2) (λ k. sym (bit_next n k) ∙ h (suc k) ∙ bit_next b k), bit_first n, bit_first b, h 0))

pub same_bit : (a b k : ℕ) → (In k a → In k b) → (In k b → In k a) → bit a k ≡ bit b k
same_bit a b k f g = elim (cases_eq (bit a k) 1) [
  | inl e ↦ e ∙ sym (f e)
  | inr n ↦ elim (cases_eq (bit b k) 1) [ inl e ↦ absurd (n (g e)) | inr m ↦ omega (arith, bit_two a k, bit_two b k) ]
]

pub same_members : (a b : ℕ) → Within a b → Within b a → a ≡ b
same_members a b f g = same_digits a b (λ k. same_bit a b k (f k) (g k))

pub or_assoc : (a b c : ℕ) → bit_or (bit_or a b) c ≡ bit_or a (bit_or b c)
or_assoc a b c = same_digits _ _ (λ k. omega (arith, bit_of_or (bit_or a b) c k, bit_of_or a b k, bit_of_or a (bit_or b c) k, bit_of_or b c k))

-- ---- the empty set

pub none_in : {A : Type 0} (k : ℕ) → In k 0 → A
none_in k h = absurd (omega (arith, bit_zero k))

pub nothing_left : (w : ℕ) → Within w 0 → w ≡ 0
nothing_left w h = no_digits w (λ k. elim (cases_eq (bit w k) 1) [ inl e ↦ none_in k (h k e) | inr n ↦ let b = bit_two w k in omega arith ])

pub no_member : (w : ℕ) → w < 2 ^ 64 → ((k : ℕ) → k < 64 → In k w → ⊥) → w ≡ 0
no_member w f h = no_digits w (λ k. elim (cases_lt k 64) [
  | inl l ↦ elim (cases_eq (bit w k) 1) [ inl e ↦ absurd (h k l e) | inr n ↦ let b = bit_two w k in omega arith ]
  | inr g ↦ bit_high w 64 k f g
])

-- ---- a set without some of its members

differ_is : (x y : ℕ) → differ x y ≡ (x - y) + (y - x)
differ_is zero y = omega arith
differ_is (suc x) zero = omega arith
differ_is (suc x) (suc y) = differ_is x y ∙ omega arith

xor_low : (a b : ℕ) → bit_xor a b % 2 ≡ differ (a % 2) (b % 2)
xor_low a b = ap (λ x. x % 2) (xor_step a b) ∙ digits_mod (bit_xor (a / 2) (b / 2)) (omega (arith, differ_is (a % 2) (b % 2), mod-lt a (zero-lt-suc 1), mod-lt b (zero-lt-suc 1)))

pub bit_of_xor : (a b k : ℕ) → bit (bit_xor a b) k ≡ differ (bit a k) (bit b k)
unfolding bit
bit_of_xor a b k = ap (λ x. x % 2) (xor_shr a b k) ∙ xor_low (a / 2 ^ k) (b / 2 ^ k)

cut_bit : (w g k : ℕ) → bit (bit_xor w (bit_and w g)) k ≡ bit w k - min (bit w k) (bit g k)
cut_bit w g k = omega (arith, bit_of_xor w (bit_and w g) k, differ_is (bit w k) (bit (bit_and w g) k), bit_of_and w g k)

and_twice : (w g : ℕ) → bit_and w (bit_and w g) ≡ bit_and w g
and_twice w g = same_digits (bit_and w (bit_and w g)) (bit_and w g) (λ k. omega (arith, bit_of_and w (bit_and w g) k, bit_of_and w g k))

cut_sum : (w g : ℕ) → bit_xor w (bit_and w g) + bit_and w g ≡ w
cut_sum w g = omega (arith, xor_add_and w (bit_and w g), and_twice w g)

pub in_pos : (w k : ℕ) → In k w → 0 < w
in_pos w k h = elim (cases_eq w 0) [ inl e ↦ none_in k (subst (In k) e h) | inr n ↦ omega arith ]

pub cut : (w g : ℕ) → Difference w g (bit_xor w (bit_and w g))
cut w g = record {
  inside = λ k h. omega (arith, cut_bit w g k, bit_two w k);
  other = λ k h. elim (cases_eq (bit g k) 1) [ inl e ↦ inl e | inr n ↦ inr (omega (arith, cut_bit w g k, bit_two g k)) ];
  apart = λ k h i. omega (arith, cut_bit w g k, bit_two w k);
  less = λ k h i. omega (arith, cut_sum w g, in_pos (bit_and w g) k (omega (arith, bit_of_and w g k)));
}

-- ---- one member more

pub bit_off : (w k : ℕ) → (In k w → ⊥) → bit w k ≡ 0
bit_off w k n = elim (cases_eq (bit w k) 1) [ inl e ↦ absurd (n e) | inr ne ↦ let b = bit_two w k in omega arith ]

one_other : (r k : ℕ) → (k ≡ r → ⊥) → bit (2 ^ r) k ≡ 0
one_other r k ne = bit_off (2 ^ r) k (λ h. ne (in_one_only r k h))

pub with_new : (w r : ℕ) → In r (bit_or w (2 ^ r))
with_new w r = in_or_r w (2 ^ r) r (in_one r)

pub with_other : (w r k : ℕ) → (k ≡ r → ⊥) → bit (bit_or w (2 ^ r)) k ≡ bit w k
with_other w r k ne = omega (arith, bit_of_or w (2 ^ r) k, one_other r k ne)

-- ---- one member less

pub less_gone : (w r : ℕ) → In r w → bit (bit_xor w (2 ^ r)) r ≡ 0
less_gone w r h = omega (arith, bit_of_xor w (2 ^ r) r, differ_is (bit w r) (bit (2 ^ r) r), in_one r)

pub less_other : (w r k : ℕ) → (k ≡ r → ⊥) → bit (bit_xor w (2 ^ r)) k ≡ bit w k
less_other w r k ne = omega (arith, bit_of_xor w (2 ^ r) k, differ_is (bit w k) (bit (2 ^ r) k), one_other r k ne)

pub less_back : (w r : ℕ) → In r w → bit_or (bit_xor w (2 ^ r)) (2 ^ r) ≡ w
less_back w r h = same_digits (bit_or (bit_xor w (2 ^ r)) (2 ^ r)) w (λ k. elim (cases_eq k r) [
  | inl e ↦ subst (λ x. bit (bit_or (bit_xor w (2 ^ r)) (2 ^ r)) x ≡ bit w x) (sym e) (with_new (bit_xor w (2 ^ r)) r ∙ sym h)
  | inr ne ↦ with_other (bit_xor w (2 ^ r)) r k ne ∙ less_other w r k ne
])

-- ---- the lowest member

low_step : (n w j d : ℕ) → w % 2 ≡ d → ((i : ℕ) → i < count_trailing_zeros n (w / 2) → bit (w / 2) i ≡ 0) → j < under d (count_trailing_zeros n (w / 2)) → bit w j ≡ 0
low_step n w zero zero e ih h = bit_first w ∙ e
low_step n w (suc j) zero e ih h = bit_next w j ∙ ih j (omega arith)
low_step n w j (suc d) e ih h = absurd (omega arith)

trailing_low : (n w j : ℕ) → j < count_trailing_zeros n w → bit w j ≡ 0
unfolding count_trailing_zeros
trailing_low zero w j h = absurd (omega arith)
trailing_low (suc n) w j h = low_step n w j (w % 2) refl (trailing_low n (w / 2)) h

at_step : (n w d : ℕ) → w % 2 ≡ d → (count_trailing_zeros n (w / 2) < n → In (count_trailing_zeros n (w / 2)) (w / 2)) → under d (count_trailing_zeros n (w / 2)) < suc n
    → In (under d (count_trailing_zeros n (w / 2))) w
at_step n w zero e ih h = bit_next w (count_trailing_zeros n (w / 2)) ∙ ih (omega arith)
at_step n w (suc d) e ih h = omega (arith, bit_first w, mod-lt w (zero-lt-suc 1))

trailing_at : (n w : ℕ) → count_trailing_zeros n w < n → In (count_trailing_zeros n w) w
unfolding count_trailing_zeros
trailing_at zero w h = absurd (omega arith)
trailing_at (suc n) w h = at_step n w (w % 2) refl (trailing_at n (w / 2)) h

pub lowest_is : (w : ℕ) → w < 2 ^ 64 → (w ≡ 0 → ⊥) → Lowest (count_trailing_zeros 64 w) w
lowest_is w f some =
    let low : count_trailing_zeros 64 w < 64 = elim (cases_lt (count_trailing_zeros 64 w) 64) [
      | inl l ↦ l
      | inr g ↦ absurd (some (no_member w f (λ k l i. let z = trailing_low 64 w k (omega arith) in absurd (omega arith))))
    ] in
    record {
      member = trailing_at 64 w low;
      low = low;
      least = λ j i. elim (cases_lt j (count_trailing_zeros 64 w)) [ inl l ↦ let z = trailing_low 64 w j l in absurd (omega arith) | inr g ↦ g ];
    }

-- ---- a word without its lowest member is that word and the one below it

odd_below : (w : ℕ) → In 0 w → ((w - 1) / 2 ≡ w / 2) × ((w - 1) % 2 ≡ 0) × (0 < w)
odd_below w h = (omega (arith, bit_first w), omega (arith, bit_first w), omega (arith, bit_first w))

even_below : (w : ℕ) → bit w 0 ≡ 0 → 0 < w → (w - 1) / 2 ≡ w / 2 - 1
even_below w h p = omega (arith, bit_first w)

below_at : (k w : ℕ) → In k w → ((j : ℕ) → j < k → bit w j ≡ 0) → bit (w - 1) k ≡ 0
below_at zero w h n = bit_first (w - 1) ∙ (odd_below w h).1
below_at (suc k) w h n =
    bit_next (w - 1) k ∙ ap (λ x. bit x k) (even_below w (n 0 (omega arith)) (in_pos w (suc k) h))
    ∙ below_at k (w / 2) (sym (bit_next w k) ∙ h) (λ j l. sym (bit_next w j) ∙ n (suc j) (omega arith))

below_over : (k w j : ℕ) → In k w → ((i : ℕ) → i < k → bit w i ≡ 0) → k < j → bit (w - 1) j ≡ bit w j
below_over k w zero h n l = absurd (omega arith)
below_over zero w (suc j) h n l = bit_next (w - 1) j ∙ ap (λ x. bit x j) (odd_below w h).0 ∙ sym (bit_next w j)
below_over (suc k) w (suc j) h n l =
    bit_next (w - 1) j ∙ ap (λ x. bit x j) (even_below w (n 0 (omega arith)) (in_pos w (suc k) h))
    ∙ below_over k (w / 2) j (sym (bit_next w k) ∙ h) (λ i m. sym (bit_next w i) ∙ n (suc i) (omega arith)) (omega arith)
    ∙ sym (bit_next w j)

pub without_lowest : (w k : ℕ) → Lowest k w → Difference w (2 ^ k) (bit_and w (w - 1))
without_lowest w k h =
    let none : (j : ℕ) → j < k → bit w j ≡ 0 = λ j l. bit_off w j (λ i. absurd (let g = h.least j i in omega arith)) in
    let gone : (j : ℕ) → In j (2 ^ k) → In j (bit_and w (w - 1)) → ⊥ = λ j i m.
    let e = in_one_only k j i in
    let o : In k (w - 1) = subst (λ x. In x (w - 1)) e (in_and w (w - 1) j m).1 in
    absurd (omega (arith, below_at k w h.member none)) in
    record {
      inside = λ j m. (in_and w (w - 1) j m).0;
      other = λ j i. elim (cases_order k j) [
        | inl e ↦ inl (subst (λ x. In x (2 ^ k)) e (in_one k))
        | inr s ↦ elim s [
          | inl l ↦ inr (in_both w (w - 1) j i (below_over k w j h.member none l ∙ i))
          | inr g ↦ absurd (let z = none j g in omega arith)
        ]
      ];
      apart = gone;
      less = λ j i m. omega (arith, and_le_r w (w - 1), in_pos w j i);
    }
