-- The digits read so far, and the number that they write. Assumes nothing.
use Rattle.std.proofs.Common.{◌≡◌, ℕ, zero, suc, ◌+◌, ◌-◌, ◌*◌, ◌^◌, ◌<◌, ◌≤◌, true, false, List, [], ◌∷◌, ◌++◌, length, get_or, take, sym, refl, ap, ◌∙◌, subst, ⊎_elim, arith, pow-add}
use native.Mathlib.Nat.{pow-le-pow_right}
use Rattle.std.proofs.lemmas.List.{take_more}
use Rattle.std.proofs.lemmas.Bool.{cases_eq}
use Rattle.text.specs.Grammar.{escape}
use Rattle.text.specs.Numbers.{Digit, AllDigits, value_after, Number}
use Rattle.text.specs.Laws.{SameNumber}
use Rattle.text.proofs.Contents.{escape_quote, escape_other}

digits_push : (c : List ℕ) (b : ℕ) → AllDigits c → Digit b → AllDigits (c ++ b ∷ [])
digits_push [] b a p = (p, tt)
digits_push (x ∷ c) b a p = (a.0, digits_push c b a.1 p)

value_push : (n : ℕ) (c : List ℕ) (b : ℕ) → value_after n (c ++ b ∷ []) ≡ value_after n c * 10 + (b - 48)
value_push n [] b = refl
value_push n (x ∷ c) b = value_push (n * 10 + (x - 48)) c b

pub digits_at : (c : List ℕ) (i : ℕ) → AllDigits c → i < length c → Digit (get_or c i 0)
digits_at [] i a l = absurd (omega arith)
digits_at (x ∷ c) zero a l = a.0
digits_at (x ∷ c) (suc i) a l = digits_at c i a.1 (omega arith)

module _ (bs : List ℕ) (i : ℕ) (within : i < length bs) where
  pub digits_more : AllDigits (take i bs) → Digit (get_or bs i 0) → AllDigits (take (i + 1) bs)
  digits_more a d = subst AllDigits (sym (take_more bs i 0 within)) (digits_push (take i bs) _ a d)

  pub value_more : value_after 0 (take (i + 1) bs) ≡ value_after 0 (take i bs) * 10 + (get_or bs i 0 - 48)
  value_more = ap (value_after 0) (take_more bs i 0 within) ∙ value_push 0 (take i bs) (get_or bs i 0)

pub power_more : (n i d : ℕ) → n < 10 ^ i → d ≤ 9 → n * 10 + d < 10 ^ (i + 1)
power_more n i d l h = let p : 10 ^ (i + 1) ≡ 10 ^ i * 10 = pow-add 10 i 1 in rw p (omega arith)

pub power_le : (i j : ℕ) → i ≤ j → 10 ^ i ≤ 10 ^ j
power_le i j h = pow-le-pow_right (omega arith) h

pub power_up : (n i j : ℕ) → n < 10 ^ i → i ≤ j → n < 10 ^ j
power_up n i j l h = let p = power_le i j h in omega arith

-- a number of fewer than 19 digits has room for one more
pub room : (n i : ℕ) → n < 10 ^ i → i < 19 → n * 10 + 9 < 2 ^ 64
room n i l h = let p = power_le i 18 (omega arith) in omega arith

-- digits stand in quotes as they are
digits_escape : (c : List ℕ) → AllDigits c → escape c ≡ c
digits_escape [] a = refl
digits_escape (b ∷ c) a = let d = a.0 in escape_other c b (λ e. omega arith) ∙ ap (λ l. b ∷ l) (digits_escape c a.1)

escape_digits : (c : List ℕ) → AllDigits (escape c) → escape c ≡ c
escape_digits [] a = refl
escape_digits (b ∷ c) a =
    ⊎_elim
    (λ e. let h = subst AllDigits (escape_quote c b e) a in let d = h.0 in absurd (omega arith))
    (λ n. let h = subst AllDigits (escape_other c b n) a in escape_other c b n ∙ ap (λ l. b ∷ l) (escape_digits c h.1))
    (cases_eq b 34)

pub same_number : SameNumber
same_number limit false c n = (λ h. h, λ h. h)
same_number limit true c n = (
  λ h. subst (λ l. Number limit l n) (escape_digits c h.numeral.digits) h,
  λ h. subst (λ l. Number limit l n) (sym (digits_escape c h.numeral.digits)) h,
)
