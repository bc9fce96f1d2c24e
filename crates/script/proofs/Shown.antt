-- A set as it is printed, member by member. Assumes nothing.
use Rattle.std.proofs.Common.{◌≡◌, ℕ, zero, suc, ◌+◌, ◌-◌, ◌^◌, ◌<◌, ◌≤◌, ◌↔◌, true, cond, List, [], ◌∷◌, ◌++◌, decimal, sym, refl, ap, ◌∙◌, subst, inl, inr, add-one, add-zero, arith}
use Rattle.std.specs.declared.fmt.Formatter.{Formatter}
use Rattle.std.specs.Fmt.{IsPlainFormatter, HasWritten}
use Rattle.std.proofs.Output.{writes_in_calls_nil, has_written_append, has_written_of_eq}
use Rattle.std.proofs.lemmas.Bool.{eq-eqb, ne_eqb}
use Rattle.terms.specs.Sets.{bit, In, Lowest, Difference}
use Rattle.terms.proofs.Bits.{in_one, in_one_only, none_in}
use Rattle.script.specs.Printing.{some_below, gap, listed, set_text}

listed_in : (i w : ℕ) → In i w → listed (i + 1) w ≡ listed i w ++ (gap (some_below i w) ++ decimal i)
listed_in i w h = ap (λ n. listed n w) (add-one i) ∙ ap (λ t. cond t (listed i w ++ (gap (some_below i w) ++ decimal i)) (listed i w)) (eq-eqb (bit w i) 1 h)

listed_out : (i w : ℕ) → (In i w → ⊥) → listed (i + 1) w ≡ listed i w
listed_out i w h = ap (λ n. listed n w) (add-one i) ∙ ap (λ t. cond t (listed i w ++ (gap (some_below i w) ++ decimal i)) (listed i w)) (ne_eqb (bit w i) 1 h)

below_in : (i w : ℕ) → In i w → some_below (i + 1) w ≡ true
below_in i w h = ap (λ n. some_below n w) (add-one i) ∙ ap (λ t. cond t true (some_below i w)) (eq-eqb (bit w i) 1 h)

below_out : (i w : ℕ) → (In i w → ⊥) → some_below (i + 1) w ≡ some_below i w
below_out i w h = ap (λ n. some_below n w) (add-one i) ∙ ap (λ t. cond t true (some_below i w)) (ne_eqb (bit w i) 1 h)

-- the members of w from i on are those of v
abbrev pub Rest : ℕ → ℕ → ℕ → Type 0
Rest w i v = (j : ℕ) → In j v ↔ (In j w × (i ≤ j))

-- where no members are, nothing more is printed
abbrev NoneFrom : ℕ → ℕ → ℕ → Type 0
NoneFrom w i d = (j : ℕ) → i ≤ j → j < i + d → In j w → ⊥

listed_skip : (w i d : ℕ) → NoneFrom w i d → listed (i + d) w ≡ listed i w
listed_skip w i zero no_one = ap (λ n. listed n w) (add-zero i)
listed_skip w i (suc d) no_one = let e : i + suc d ≡ i + d + 1 = omega arith in ap (λ n. listed n w) e ∙ listed_out (i + d) w (no_one (i + d) (omega arith) (omega arith)) ∙ listed_skip w i d (λ j l m. no_one j l (omega arith))

below_skip : (w i d : ℕ) → NoneFrom w i d → some_below (i + d) w ≡ some_below i w
below_skip w i zero no_one = ap (λ n. some_below n w) (add-zero i)
below_skip w i (suc d) no_one = let e : i + suc d ≡ i + d + 1 = omega arith in ap (λ n. some_below n w) e ∙ below_out (i + d) w (no_one (i + d) (omega arith) (omega arith)) ∙ below_skip w i d (λ j l m. no_one j l (omega arith))

-- up to the lowest member that is left there is none
none_to : (w i v k : ℕ) → Rest w i v → Lowest k v → NoneFrom w i (k - i)
none_to w i v k r low j l m h = let least = low.least j ((r j).1 (h, l)) in omega arith

-- without it the members from the next number on are left
rest_next : (w i v u k : ℕ) → Rest w i v → Lowest k v → Difference v (2 ^ k) u → Rest w (k + 1) u
rest_next w i v u k r low d j = (
  λ h.
      let in_v = d.inside j h in
      let least = low.least j in_v in
      let other : j ≡ k → ⊥ = λ e. d.apart k (in_one k) (subst (λ n. In n u) e h) in
      (((r j).0 in_v).0, grind arith),
  λ h.
      let from = ((r k).0 low.member).1 in
      elim (d.other j ((r j).1 (h.0, omega (arith, h.1)))) [ inl one ↦ let e = in_one_only k j one in absurd (omega (arith, h.1)) | inr left ↦ left ],
)

-- the members below some i are printed, and those from i on are left; `space` stands before the next
abbrev pub Printed : {W : Type 0} → (W → List ℕ → W → Type 0) → Formatter W → ℕ → ℕ → List ℕ → Formatter W → Type 0
Printed took f w left space g = (i : ℕ) × (i ≤ 64) × Rest w i left × (IsPlainFormatter f → HasWritten took f (listed i w) g) × (space ≡ gap (some_below i w))

module _ {W : Type 0} (took : W → List ℕ → W → Type 0) where
  -- before the first member
  pub none_printed : (f : Formatter W) (w : ℕ) → Printed took f w w [] f
  none_printed f w = (0, omega arith, (λ j. ((λ h. (h, omega arith)), λ h. h.0)), (λ p. record { wrote = writes_in_calls_nil took f.writer; plain = p }), refl)

  -- one member on
  pub more_printed : (f g h : Formatter W) (w left next k : ℕ) (space : List ℕ) → Lowest k left → Difference left (2 ^ k) next → (IsPlainFormatter g → HasWritten took g (space ++ decimal k) h) → Printed took f w left space g → Printed took f w next (32 ∷ []) h
  more_printed f g h w left next k space low d now (i, l, r, before, s) =
      let member = ((r k).0 low.member).0 in
      let from : i ≤ k = ((r k).0 low.member).1 in
      let to : i + (k - i) ≡ k = omega arith in
      let none = none_to w i left k r low in
      let same_list : listed k w ≡ listed i w = ap (λ n. listed n w) (sym to) ∙ listed_skip w i (k - i) none in
      let same_gap : some_below k w ≡ some_below i w = ap (λ n. some_below n w) (sym to) ∙ below_skip w i (k - i) none in
      let text : listed i w ++ (space ++ decimal k) ≡ listed (k + 1) w = ap (λ t. listed i w ++ (t ++ decimal k)) (s ∙ ap gap (sym same_gap)) ∙ ap (λ t. t ++ (gap (some_below k w) ++ decimal k)) (sym same_list) ∙ sym (listed_in k w member) in (
        k + 1,
        (let high = low.low in omega arith),
        rest_next w i left next k r low d,
        (λ p. let b = before p in has_written_of_eq took f (listed i w ++ (space ++ decimal k)) (listed (k + 1) w) h text (has_written_append took f (listed i w) g (space ++ decimal k) h b (now b.plain))),
        ap gap (sym (below_in k w member)),
      )

  -- the braces around them
  pub whole : (f a b h : Formatter W) (w left : ℕ) (space : List ℕ) → left ≡ 0 → (IsPlainFormatter f → HasWritten took f (123 ∷ []) a) → Printed took a w left space b → (IsPlainFormatter b → HasWritten took b (125 ∷ []) h) → IsPlainFormatter f → HasWritten took f (set_text w) h
  unfolding set_text
  whole f a b h w left space e first (i, l, r, then, _) last p =
      let x = first p in
      let y = then x.plain in
      let z = last y.plain in
      let none : NoneFrom w i (64 - i) = λ j m _ q. none_in j (subst (λ v. In j v) e ((r j).1 (q, m))) in
      let to : i + (64 - i) ≡ 64 = omega arith in
      let all = has_written_append took f ((123 ∷ []) ++ listed i w) b (125 ∷ []) h (has_written_append took f (123 ∷ []) a (listed i w) b x y) z in
      has_written_of_eq took f ((123 ∷ listed i w) ++ (125 ∷ [])) ((123 ∷ listed 64 w) ++ (125 ∷ [])) h (ap (λ t. (123 ∷ t) ++ (125 ∷ [])) (sym (ap (λ n. listed n w) (sym to) ∙ listed_skip w i (64 - i) none))) all
