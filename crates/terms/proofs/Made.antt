-- An array that is made by calls of a closure. Assumes nothing.
use Rattle.std.proofs.Common.{◌≡◌, ℕ, ◌+◌, ◌<◌, ◌≤◌, List, get_or, zero, suc, sym, subst, inl, inr, arith}
use Rattle.std.specs.Array.{IsFromFnResult, IsFromFnResultFrom}
use Rattle.std.specs.Fn.{Called}
use Rattle.std.proofs.lemmas.Bool.{cases_eq}
use denote.Param.Members.{Mut}

-- each call leaves the closure as it is
each_made : {F B : Type 0} (g : Mut F (ℕ × Unit {0}) B) (P : ℕ → B → Type 0) (f : F)
    → ((i : ℕ) (y : B) (q : F) → Called g f (i, tt) y q → P i y × (q ≡ f))
    → (ys : List B) (n i : ℕ) → IsFromFnResultFrom g f ys i n → (j : ℕ) (d : B) → i ≤ j → j < i + n → P j (get_or ys j d)
each_made g P f one ys zero i h j d l u = absurd (omega arith)
each_made g P f one ys (suc n) i (q, y, at, call, rest) j d l u =
    let s = one i y q call in
    elim (cases_eq j i) [
      | inl e ↦ subst (λ z. P z (get_or ys z d)) (sym e) (subst (P i) (sym (at.1 d)) s.0)
      | inr ne ↦ each_made g P f one ys n (i + 1) (subst (λ z. IsFromFnResultFrom g z ys (i + 1) n) s.1 rest) j d (omega arith) (omega arith)
    ]

pub made_at : {F B : Type 0} {g : Mut F (ℕ × Unit {0}) B} {f : F} {ys : List B} {n : ℕ} → IsFromFnResult g f ys n → (P : ℕ → B → Type 0)
    → ((i : ℕ) (y : B) (q : F) → Called g f (i, tt) y q → P i y × (q ≡ f)) → (j : ℕ) (d : B) → j < n → P j (get_or ys j d)
made_at {F} {B} {g} {f} {ys} {n} h P one j d l = each_made g P f one ys n 0 h.each j d (omega arith) (omega arith)
