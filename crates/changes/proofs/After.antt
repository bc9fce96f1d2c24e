-- What changes leave of a user's roles. Assumes nothing.
use Rattle.std.proofs.Common.{◌≡◌, ℕ, ◌^◌, ◌<◌, Bool, true, false, cond, ◌&&◌, eqb, ltb, ◌⊎◌, List, [], ◌∷◌, length, set, fold, sym, refl, ap, ◌∙◌, subst, inl, inr, arith, length-set}
use lib.Bits.{bit_or, bit_xor}
use Rattle.std.proofs.lemmas.Bool.{cases_eq, eqb-true, eqb-false, eq-eqb, ne_eqb, ltb-false, lt-ltb, and_parts, and_from, both_ways}
use Rattle.terms.specs.Sets.{bit, In}
use Rattle.terms.proofs.Bits.{in_or, in_or_l, in_or_r, in_one, in_one_only, less_gone, less_other}
use Rattle.register.specs.Pairs.{row}
use Rattle.register.proofs.Tables.{row_same, row_other}
use Rattle.changes.specs.Latest.{Stands, Unwithdrawn}
use Rattle.changes.specs.Ends.{changed_row, row_after, user_of, changed, ended}
use Rattle.changes.specs.declared.Change.{Change}
use Rattle.changes.specs.declared.Change.TheVariants.{Assignment, Withdrawal}

module _ (u k : ℕ) (low : k < 64) where
  -- ---- an assignment

  assign_in' : (a b : Bool) (v r w : ℕ) → eqb v u ≡ a → ltb r 64 ≡ b → In k (cond a (cond b (bit_or w (2 ^ r)) w) w) → (Assignment v r ≡ Assignment u k) ⊎ In k w
  assign_in' true true v r w e f h = elim (in_or w (2 ^ r) k h) [
    | inl x ↦ inr x
    | inr y ↦ inl (let p = eqb-true v u e in let q = in_one_only r k y in cc)
  ]
  assign_in' true false v r w e f h = inr h
  assign_in' false b v r w e f h = inr h

  assign_in : (v r w : ℕ) → In k (changed_row u (Assignment v r) w) → (Assignment v r ≡ Assignment u k) ⊎ In k w
  assign_in v r w h = assign_in' (eqb v u) (ltb r 64) v r w refl refl h

  assign_out' : (a b : Bool) (v r w : ℕ) → eqb v u ≡ a → ltb r 64 ≡ b → (Assignment v r ≡ Assignment u k) ⊎ In k w → In k (cond a (cond b (bit_or w (2 ^ r)) w) w)
  assign_out' true true v r w e f (inl q) = let p : k ≡ r = cc in in_or_r w (2 ^ r) k (subst (λ x. In k (2 ^ x)) p (in_one k))
  assign_out' true true v r w e f (inr x) = in_or_l w (2 ^ r) k x
  assign_out' true false v r w e f (inl q) = let p : k ≡ r = cc in absurd (omega (arith, ltb-false r 64 f))
  assign_out' true false v r w e f (inr x) = x
  assign_out' false b v r w e f (inl q) = let p : v ≡ u = cc in absurd (eqb-false v u e p)
  assign_out' false b v r w e f (inr x) = x

  assign_out : (v r w : ℕ) → (Assignment v r ≡ Assignment u k) ⊎ In k w → In k (changed_row u (Assignment v r) w)
  assign_out v r w x = assign_out' (eqb v u) (ltb r 64) v r w refl refl x

  -- ---- a withdrawal

  abbrev Test : ℕ → ℕ → ℕ → Bool
  Test v r w = eqb v u && (eqb (bit w r) 1 && ltb r 64)

  withdraw_in' : (b : Bool) (v r w : ℕ) → Test v r w ≡ b → In k (cond b (bit_xor w (2 ^ r)) w) → In k w × (Withdrawal v r ≡ Withdrawal u k → ⊥)
  withdraw_in' true v r w e h =
      let s = and_parts (eqb v u) (eqb (bit w r) 1 && ltb r 64) e in
      let t = and_parts (eqb (bit w r) 1) (ltb r 64) s.1 in
      elim (cases_eq k r) [
        | inl q ↦ absurd (let g = less_gone w r (eqb-true (bit w r) 1 t.0) in let z = subst (λ x. bit (bit_xor w (2 ^ r)) x ≡ 1) q h in omega arith)
        | inr n ↦ (sym (less_other w r k n) ∙ h, (λ q. let p : k ≡ r = cc in n p))
      ]
  withdraw_in' false v r w e h = (
    h,
    (λ q.
        let p : v ≡ u = cc in
        let s : k ≡ r = cc in
        both_ways (Test v r w) e (and_from (eqb v u) (eqb (bit w r) 1 && ltb r 64) (eq-eqb v u p)
        (and_from (eqb (bit w r) 1) (ltb r 64) (eq-eqb (bit w r) 1 (subst (λ x. In x w) s h)) (lt-ltb r 64 (omega arith))))),
  )

  withdraw_in : (v r w : ℕ) → In k (changed_row u (Withdrawal v r) w) → In k w × (Withdrawal v r ≡ Withdrawal u k → ⊥)
  withdraw_in v r w h = withdraw_in' (Test v r w) v r w refl h

  withdraw_out' : (b : Bool) (v r w : ℕ) → Test v r w ≡ b → In k w → (Withdrawal v r ≡ Withdrawal u k → ⊥) → In k (cond b (bit_xor w (2 ^ r)) w)
  withdraw_out' true v r w e h n =
      let s = and_parts (eqb v u) (eqb (bit w r) 1 && ltb r 64) e in
      let p = eqb-true v u s.0 in
      elim (cases_eq k r) [ inl q ↦ absurd (n (cc)) | inr m ↦ less_other w r k m ∙ h ]
  withdraw_out' false v r w e h n = h

  withdraw_out : (v r w : ℕ) → In k w → (Withdrawal v r ≡ Withdrawal u k → ⊥) → In k (changed_row u (Withdrawal v r) w)
  withdraw_out v r w h n = withdraw_out' (Test v r w) v r w refl h n

  -- ---- all of them

  pub after_in : (cs : List Change) (w : ℕ) → In k (row_after u cs w) → Stands u k cs ⊎ (In k w × Unwithdrawn u k cs)
  after_in [] w h = inr (h, tt)
  after_in (Assignment v r ∷ cs) w h = elim (after_in cs (changed_row u (Assignment v r) w) h) [
    | inl s ↦ inl (inr s)
    | inr x ↦ elim (assign_in v r w x.0) [ inl e ↦ inl (inl (e, x.1)) | inr y ↦ inr (y, ((λ q. cc), x.1)) ]
  ]
  after_in (Withdrawal v r ∷ cs) w h = elim (after_in cs (changed_row u (Withdrawal v r) w) h) [
    | inl s ↦ inl (inr s)
    | inr x ↦ let y = withdraw_in v r w x.0 in inr (y.0, (y.1, x.1))
  ]

  pub after_out : (cs : List Change) (w : ℕ) → Stands u k cs ⊎ (In k w × Unwithdrawn u k cs) → In k (row_after u cs w)
  after_out [] w (inl n) = absurd n
  after_out [] w (inr x) = x.0
  after_out (Assignment v r ∷ cs) w (inl (inl e)) = after_out cs (changed_row u (Assignment v r) w) (inr (assign_out v r w (inl e.0), e.1))
  after_out (Assignment v r ∷ cs) w (inl (inr s)) = after_out cs (changed_row u (Assignment v r) w) (inl s)
  after_out (Assignment v r ∷ cs) w (inr x) = after_out cs (changed_row u (Assignment v r) w) (inr (assign_out v r w (inr x.0), x.1.1))
  after_out (Withdrawal v r ∷ cs) w (inl (inl e)) = cc
  after_out (Withdrawal v r ∷ cs) w (inl (inr s)) = after_out cs (changed_row u (Withdrawal v r) w) (inl s)
  after_out (Withdrawal v r ∷ cs) w (inr x) = after_out cs (changed_row u (Withdrawal v r) w) (inr (withdraw_out v r w x.0 x.1.0, x.1.1))

-- one change after another
pub folded : (u : ℕ) (cs : List Change) (w : ℕ) → fold (λ after c. changed_row u c after) w cs ≡ row_after u cs w
folded u [] w = refl
folded u (c ∷ cs) w = folded u cs (changed_row u c w)

-- ---- the end table, row by row

other_user : (u : ℕ) (c : Change) (w : ℕ) → (user_of c ≡ u → ⊥) → changed_row u c w ≡ w
other_user u (Assignment v r) w n = rw (ne_eqb v u n) refl
other_user u (Withdrawal v r) w n = rw (ne_eqb v u n) refl

row_changed : (u : ℕ) (c : Change) (t : List ℕ) → u < length t → row (changed t c) u ≡ changed_row u c (row t u)
row_changed u c t l = elim (cases_eq u (user_of c)) [
  | inl e ↦ subst (λ x. row (set t (user_of c) (changed_row (user_of c) c (row t (user_of c)))) x ≡ changed_row x c (row t x)) (sym e)
      (row_same t (user_of c) (changed_row (user_of c) c (row t (user_of c))) (subst (λ x. x < length t) e l))
  | inr n ↦ row_other t (user_of c) u (changed_row (user_of c) c (row t (user_of c))) n ∙ sym (other_user u c (row t u) (λ e. n (sym e)))
]

pub row_ended : (cs : List Change) (u : ℕ) (t : List ℕ) → u < length t → row (ended t cs) u ≡ row_after u cs (row t u)
row_ended [] u t l = refl
row_ended (c ∷ cs) u t l =
    row_ended cs u (changed t c) (omega (arith, length-set t (user_of c) (changed_row (user_of c) c (row t (user_of c)))))
    ∙ ap (row_after u cs) (row_changed u c t l)

pub length_ended : (cs : List Change) (t : List ℕ) → length (ended t cs) ≡ length t
length_ended [] t = refl
length_ended (c ∷ cs) t = length_ended cs (changed t c) ∙ length-set t (user_of c) (changed_row (user_of c) c (row t (user_of c)))
