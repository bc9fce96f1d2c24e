-- A change checked by its user's row is checked in its turn. Assumes nothing.
use Rattle.std.proofs.Common.{◌≡◌, ℕ, ◌<◌, ◌≤◌, List, [], length, take, Some, sym, refl, ap, ◌∙◌, subst, inl, inr}
use Rattle.std.proofs.lemmas.Bool.{cases_lt, le-leb}
use Rattle.terms.specs.Refusals.{refusal}
use Rattle.register.specs.Pairs.{row}
use Rattle.changes.specs.Ends.{user_of, ended}
use Rattle.changes.specs.Turns.{change_rows, change_at, in_turn}
use Rattle.changes.specs.declared.Change.{Change}
use Rattle.changes.specs.declared.Change.TheVariants.{Assignment, Withdrawal}
use Rattle.changes.proofs.After.{length_ended}

-- of a user who is not there nothing else is asked
no_user : (users w : ℕ) (c : Change) → users ≤ user_of c → change_rows users w c ≡ Some (refusal 11 [])
no_user users w (Assignment u r) g = rw (le-leb users u g) refl
no_user users w (Withdrawal u r) g = rw (le-leb users u g) refl

module _ (t : List ℕ) (cs : List Change) (i users user roles w : ℕ) where
  pub turn_checked : users ≡ length t → user ≡ user_of (change_at cs i) → w ≡ row t user
      → ((s : List ℕ) → user < length s → row s user ≡ w → row (ended s (take i cs)) user ≡ roles)
      → change_rows users roles (change_at cs i) ≡ in_turn t cs i
  turn_checked n e q h =
      let c = change_at cs i in
      let end = ended t (take i cs) in
      let long : users ≡ length end = n ∙ sym (length_ended (take i cs) t) in
      elim (cases_lt user (length t)) [
        | inl l ↦
            let same : roles ≡ row end (user_of c) = sym (h t l (sym q)) ∙ ap (row end) e in
            ap (λ x. change_rows x roles c) long ∙ ap (λ x. change_rows (length end) x c) same
        | inr g ↦
            let past : users ≤ user_of c = subst (λ x. users ≤ x) e (subst (λ x. x ≤ user) (sym n) g) in
            no_user users roles c past ∙ sym (no_user (length end) (row end (user_of c)) c (subst (λ x. x ≤ user_of c) long past))
      ]
