-- The tables of the search stay right. Assumes nothing.
use Rattle.std.proofs.Common.{◌≡◌, ℕ, ◌<◌, List, Option, Some, None, MatchOption, is_some, true, false, length, get_or, set, replicate, sym, ap, ◌∙◌, subst, inl, inr, arith, length-set}
use lib.ListN.{length-replicate, get_or-replicate}
use Rattle.std.proofs.lemmas.List.{get_or-set_same, get_or-set_other}
use Rattle.std.proofs.lemmas.Bool.{cases_eq}
use Rattle.plan.specs.declared.Plan.{Plan}
use Rattle.holding.specs.Holding.{HeldWith}
use Rattle.judge.specs.Memory.{SingleRight, ShortRight, KnownRight, nothing, SlotsRight}
use Rattle.judge.specs.declared.memo.Known.{Known}
use Rattle.judge.specs.declared.memo.Single.TheVariants.{Unknown, Never, Held}
use Rattle.judge.proofs.Shares.{some_user}

module _ (p : Plan) where
  -- nobody holds a set that is not empty
  pub short_none : (s : ℕ) → ShortRight p s 0
  short_none s g c = let l = some_user p s g c.users c.cover in omega (arith, c.few)

  -- nothing is known of one user
  pub single_none : (s : ℕ) → SingleRight p s Unknown
  single_none s = (λ e. absurd (cc), λ e. absurd (cc))

  pub single_never : (s : ℕ) → ((w : ℕ) → HeldWith p s w → ⊥) → SingleRight p s Never
  single_never s none = (λ _. none, λ e. absurd (cc))

  -- what the search for one user answered
  pub none_found : (s : ℕ) (o : Option ℕ) → is_some o ≡ false → MatchOption o ((w : ℕ) → HeldWith p s w → ⊥) (HeldWith p s) → (w : ℕ) → HeldWith p s w → ⊥
  none_found s None e h = h
  none_found s (Some w) e h = absurd (cc)

  pub single_found : (s : ℕ) (o : Option ℕ) → is_some o ≡ true → MatchOption o ((w : ℕ) → HeldWith p s w → ⊥) (HeldWith p s) → SingleRight p s Held
  single_found s None e h = absurd (cc)
  single_found s (Some w) e h = (λ e. absurd (cc), λ _. ∣ (w, h) ∣₁)

  -- nothing is known
  pub known_none : (s : ℕ) → KnownRight p s nothing
  known_none s = (single_none s, short_none s)

  moved : {s t : ℕ} {k l : Known} → s ≡ t → k ≡ l → KnownRight p t l → KnownRight p s k
  moved {s} {t} {k} {l} e f h = subst (λ x. KnownRight p x k) (sym e) (subst (KnownRight p t) (sym f) h)

  pub slots_set : (sets : List ℕ) (known : List Known) (i s : ℕ) (k : Known) → i < length sets → length known ≡ length sets
      → SlotsRight p sets known → KnownRight p s k → SlotsRight p (set sets i s) (set known i k)
  slots_set sets known i s k l e right h j b = elim (cases_eq j i) [
    | inl q ↦ moved
        (ap (λ x. get_or (set sets i s) x 0) q ∙ get_or-set_same sets i s 0 l)
        (ap (λ x. get_or (set known i k) x nothing) q ∙ get_or-set_same known i k nothing (omega arith))
        h
    | inr q ↦ moved (get_or-set_other sets i j s 0 q) (get_or-set_other known i j k nothing q) (right j (omega (arith, length-set sets i s)))
  ]

  pub slots_moved : {sets sets' : List ℕ} {known known' : List Known} → sets ≡ sets' → known ≡ known' → SlotsRight p sets' known' → SlotsRight p sets known
  slots_moved e f h = rw (e, f) h

  -- tables that know nothing
  pub slots_none : (n : ℕ) → SlotsRight p (replicate n 0) (replicate n nothing)
  slots_none n i l =
      let b : i < n = omega (arith, length-replicate {A = ℕ} n 0) in
      moved (get_or-replicate n i 0 0 b) (get_or-replicate n i nothing nothing b) (known_none 0)
