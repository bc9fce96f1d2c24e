-- The union of rows: what is in it, and how it grows row after row. Assumes nothing.
use Rattle.std.proofs.Common.{◌≡◌, ℕ, zero, suc, ◌/◌, ◌%◌, ◌^◌, Bool, true, false, cond, eqb, List, [], ◌∷◌, get_or, sym, refl, ap, ◌∙◌, subst, inl, inr, arith}
use lib.Bits.{bit_or, or_zero_r}
use Rattle.std.proofs.lemmas.Bool.{eq-eqb, eqb-true}
use Rattle.terms.specs.Sets.{In, Difference, union}
use Rattle.terms.proofs.Bits.{bit_zero, bit_first, bit_next, in_or, in_or_l, in_or_r, in_one_only, none_in, nothing_left, or_assoc, same_members}

-- what is in a union of rows
pub union_in : (rows : List ℕ) (w i k : ℕ) → In i w → In k (get_or rows i 0) → In k (union rows w)
union_in [] w zero k h m = m
union_in [] w (suc i) k h m = m
union_in (row ∷ rows) w zero k h m = rw (eq-eqb (w % 2) 1 (sym (bit_first w) ∙ h)) (in_or_l row (union rows (w / 2)) k m)
union_in (row ∷ rows) w (suc i) k h m = in_or_r (cond (eqb (w % 2) 1) row 0) (union rows (w / 2)) k (union_in rows (w / 2) i k (sym (bit_next w i) ∙ h) m)

first_in : (t : Bool) (row k : ℕ) → In k (cond t row 0) → (t ≡ true) × In k row
first_in true row k h = (refl, h)
first_in false row k h = absurd (omega (arith, bit_zero k))

pub union_of : (rows : List ℕ) (w k : ℕ) → In k (union rows w) → (i : ℕ) × In i w × In k (get_or rows i 0)
union_of [] w k h = absurd (omega (arith, bit_zero k))
union_of (row ∷ rows) w k h = elim (in_or (cond (eqb (w % 2) 1) row 0) (union rows (w / 2)) k h) [
  | inl p ↦ let f = first_in (eqb (w % 2) 1) row k p in (0, bit_first w ∙ eqb-true (w % 2) 1 f.0, f.1)
  | inr q ↦ let r = union_of rows (w / 2) k q in (suc r.0, bit_next w r.0 ∙ r.1, r.2)
]

-- ---- row by row, by the members of the set
pub union_next : (rows : List ℕ) (w v k : ℕ) → In k w → Difference w (2 ^ k) v → union rows w ≡ bit_or (get_or rows k 0) (union rows v)
union_next rows w v k h d =
    let row = get_or rows k 0 in
    same_members (union rows w) (bit_or row (union rows v))
    (λ j i. let u = union_of rows w j i in elim (d.other u.0 u.1) [
      | inl o ↦ in_or_l row (union rows v) j (subst (λ x. In j (get_or rows x 0)) (in_one_only k u.0 o) u.2)
      | inr m ↦ in_or_r row (union rows v) j (union_in rows v u.0 j m u.2)
    ])
    (λ j i. elim (in_or row (union rows v) j i) [
      | inl r ↦ union_in rows w k j h r
      | inr m ↦ let u = union_of rows v j m in union_in rows w u.0 j (d.inside u.0 u.1) u.2
    ])

pub step_next : (rows : List ℕ) (w v k acc u : ℕ) → In k w → Difference w (2 ^ k) v → bit_or acc (union rows w) ≡ u → bit_or (bit_or acc (get_or rows k 0)) (union rows v) ≡ u
step_next rows w v k acc u h d e = or_assoc acc (get_or rows k 0) (union rows v) ∙ ap (bit_or acc) (sym (union_next rows w v k h d)) ∙ e

pub union_none : (rows : List ℕ) → union rows 0 ≡ 0
union_none rows = nothing_left (union rows 0) (λ k h. let u = union_of rows 0 k h in none_in u.0 u.1)

pub at_none : (rows : List ℕ) (w acc u : ℕ) → w ≡ 0 → bit_or acc (union rows w) ≡ u → acc ≡ u
at_none rows w acc u z e = sym (or_zero_r acc) ∙ ap (bit_or acc) (sym (ap (union rows) z ∙ union_none rows)) ∙ e
