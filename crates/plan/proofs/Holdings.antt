-- What a set says of a user is what his rows say: authorised and held as sets and as relations. Assumes nothing.
use Rattle.std.proofs.Common.{ℕ, ◌↔◌}
use Rattle.terms.specs.Sets.{In}
use Rattle.terms.proofs.Unions.{union_in, union_of}
use Rattle.plan.specs.Authority.{AuthorisedFor, Holds, authorised, held}
use Rattle.plan.specs.declared.Plan.{Plan}

module _ (p : Plan) (w : ℕ) where
  pub authorised_exactly : (b : ℕ) → In b (authorised p w) ↔ AuthorisedFor p w b
  authorised_exactly b = ((λ h. union_of p.juniors w b h), (λ t. union_in p.juniors w t.0 b t.1 t.2))

  pub held_exactly : (m : ℕ) → In m (held p w) ↔ Holds p w m
  held_exactly m = (
    (λ h. let u = union_of p.grants (authorised p w) m h in (u.0, (authorised_exactly u.0).0 u.1, u.2)),
    (λ t. union_in p.grants (authorised p w) t.0 m ((authorised_exactly t.0).1 t.1) t.2),
  )
