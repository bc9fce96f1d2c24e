-- Counting the members of a role in rows. Assumes nothing.
use Rattle.std.proofs.Common.{◌≡◌, ℕ, ◌^◌, ◌<◌, ◌≤◌, Bool, true, false, cond, count_by, nat_lt, ◌&&◌, ◌==◌, List, [], ◌∷◌, refl, sym, ap, ◌∙◌, inl, inr, arith}
use Rattle.std.proofs.lemmas.Bool.{cases_lt, cases_eq, both_ways, and_from, and_left, and_right, eq-eqb, ne_eqb, lt-ltb, le-ltb}
use Rattle.std.proofs.lemmas.List.Sums.{sum_by-cons}
use Rattle.terms.specs.Sets.{bit, In}
use Rattle.terms.proofs.Bits.{bit_off, bit_high}
use Rattle.register.specs.Pairs.{members, having}
use Rattle.register.proofs.Cases.{members_low, members_high}

-- whether the word has the role
abbrev pub has_role : ℕ → ℕ → Bool
has_role r w = nat_lt r 64 && (bit w r == 1)

pub has_role_is : (w r : ℕ) (b : Bool) → w < 2 ^ 64 → (b ≡ true → In r w) → (In r w → b ≡ true) → b ≡ has_role r w
has_role_is w r true wide told found = elim (cases_lt r 64) [
  | inl l ↦ sym (and_from _ _ (lt-ltb r 64 l) (eq-eqb (bit w r) 1 (told refl)))
  | inr g ↦ absurd (omega (arith, told refl, bit_high w 64 r wide g))
]
has_role_is w r false wide told found = sym (and_right (nat_lt r 64) _ (ne_eqb (bit w r) 1 (λ h. both_ways false refl (found h))))

digit : (w r : ℕ) → r < 64 → cond (has_role r w) 1 0 ≡ bit w r
digit w r l = elim (cases_eq (bit w r) 1) [
  | inl e ↦ ap {B = ℕ} (λ b. cond b 1 0) (and_from _ _ (lt-ltb r 64 l) (eq-eqb (bit w r) 1 e)) ∙ sym e
  | inr ne ↦ ap {B = ℕ} (λ b. cond b 1 0) (and_right (nat_lt r 64) _ (ne_eqb (bit w r) 1 ne)) ∙ sym (bit_off w r ne)
]

low_members : (t : List ℕ) (r : ℕ) → r < 64 → count_by (has_role r) t ≡ having r t
low_members [] r l = refl
low_members (w ∷ t) r l = omega (arith, sum_by-cons (λ x. cond (has_role r x) 1 0) w t, sum_by-cons (λ x. bit x r) w t, digit w r l, low_members t r l)

high_members : (t : List ℕ) (r : ℕ) → 64 ≤ r → count_by (has_role r) t ≡ 0
high_members [] r g = refl
high_members (w ∷ t) r g = omega (arith, sum_by-cons (λ x. cond (has_role r x) 1 0) w t, ap {B = ℕ} (λ b. cond b 1 0) (and_left (nat_lt r 64) (bit w r == 1) (le-ltb r 64 g)), high_members t r g)

pub counted_members : (t : List ℕ) (r : ℕ) → count_by (has_role r) t ≡ members t r
counted_members t r = elim (cases_lt r 64) [
  | inl l ↦ low_members t r l ∙ sym (members_low t r l)
  | inr g ↦ high_members t r g ∙ sym (members_high t r g)
]
