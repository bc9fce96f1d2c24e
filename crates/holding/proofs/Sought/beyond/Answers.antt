use Rattle.std.proofs.Common.{◌≡◌, ◌-◌, ◌*◌, ◌<◌, ℕ, Bool, true, false, nat_lt, length, get_or, refl, sym, ap, subst, inl, inr, rules, arith, ltb-true}
use lib.Bits.{bit_and, bit_xor}
use lib.Count.{ones}
use Rattle.std.specs.List.{HoldsAt, zip}
use Rattle.std.specs.Iterator.Adapters.{zip_first, zip_second}
use Rattle.std.proofs.lemmas.Bool.{cases_eq, MatchBool-at_true}
use Rattle.std.proofs.lemmas.Iterator.{cases_from_any, YieldsList-from_slice, YieldsList-from_zip}
use Rattle.std.proofs.lemmas.Slice.Zip.{length-zip, get_or-zip}
use Rattle.terms.specs.Sets.{bit}
use Rattle.terms.proofs.Bits.{cut}
use Rattle.plan.specs.Authority.{authorised, constraint_count, constraint_at}
use Rattle.plan.specs.Limits.{constraint_in}
use Rattle.plan.specs.declared.Constraint.{Constraint}
use Rattle.holding.proofs.Bounds.{room, fresh_limit, fresh_bound}
use Rattle.holding.proofs.Sought.beyond.Goals as goal

pub returns : goal.returns
returns c t w h =
    let u = c.args.self.now in
    let p = u.survey.now.plan.now in
    let items = c.constraints.result.now in
    let outside = u.survey.now.outside in
    let due = c.open-open.result in
    let each = c.most-each.result in
    let test : Constraint × ℕ → Bool = λ x. nat_lt ((x.0.limit - 1 - ones (bit_and u.all x.0.roles)) * each) (ones (bit_xor due (bit_and due x.1))) in
    let ran = cases_from_any {s = c.zip.result} c.any.new.self _ c.any.result (λ x. true ≡ test x) (λ x. false ≡ test x) c.any.ensures.ran
    (YieldsList-from_zip {s = c.zip.result} (YieldsList-from_slice {s = zip_first c.zip.result} items (cc)) (YieldsList-from_slice {s = zip_second c.zip.result} outside (cc)))
    (λ x q k. search rules) (λ x q k. (search rules, search rules)) in
    let some : (k : ℕ) × (k < length (zip items outside)) × HoldsAt (λ x. true ≡ test x) (zip items outside) k = MatchBool-at_true _ _ t ran in
    let i = some.0 in
    let long = length-zip items outside in
    let d : Constraint = get_or items i (record { roles = 0; limit = 0 }) in
    let apart = get_or outside i 0 in
    let at = get_or-zip items outside i (record { roles = 0; limit = 0 }, 0) (omega (arith, some.1, long)) (omega (arith, some.1, long)) in
    let more = subst (λ x. true ≡ test x) at (some.2 (record { roles = 0; limit = 0 }, 0)) in
    let low : i < constraint_count p = omega (arith, some.1, long, ap length c.constraints.ensures) in
    let is : d ≡ constraint_at p i = ap (λ xs. constraint_in xs i) c.constraints.ensures in
    let slack = d.limit - 1 - ones (bit_and u.all d.roles) in
    let roles = (constraint_at p i).roles in
    let e : slack ≡ d.limit - 1 - ones (bit_and (authorised p u.word) d.roles) = ap (λ x. d.limit - 1 - ones (bit_and x d.roles)) u.whole in
    let few = fresh_bound p u.word u.wanted w h roles slack due apart (bit_xor due (bit_and due apart)) each c.open-open.ensures refl (cut due apart)
    (λ a k g. elim (cases_eq (bit roles a) 1) [ inl x ↦ inl x | inr n ↦ inr (u.survey.now.apart (i, a, k) (low, g, n)) ])
    c.most-each.ensures
    (omega (arith, room p u.word u.wanted i d low is slack e, fresh_limit p u.word u.wanted w h i low)) in
    omega (arith, few, ltb-true _ _ (sym more))
