-- The questions that the search for one user goes through on the way.
use Rattle.std.specs.Prelude.{ℕ, ◌≤◌, bit_and, bit_xor, count_ones}
use Rattle.terms.specs.Sets.{Within}
use Rattle.plan.specs.Authority.{authorised, held, Satisfies}
use Rattle.plan.specs.declared.Plan.{Plan}
use Rattle.holding.specs.declared.Named.{Named}
use Rattle.holding.specs.declared.Sought.{Sought}

-- a user with the roles w satisfies the constraints, is authorised for what `word` authorises for, and holds `wanted`
pub record Holder (p : Plan) (word wanted w : ℕ) : Type 0 where
  pub satisfies : Satisfies p w
  pub above : Within (authorised p word) (authorised p w)
  pub holds : Within wanted (held p w)

-- the user w is one who is sought
abbrev pub Fits : Sought → ℕ → Type 0
Fits u w = Holder u.survey.now.plan.now u.word u.wanted w

-- nobody is
abbrev pub Nobody : Sought → Type 0
Nobody u = (w : ℕ) → Fits u w → ⊥

-- the roles of u that a user authorised for `all` has more than one authorised for `old`
abbrev pub fresh : ℕ → ℕ → ℕ → ℕ
fresh all u old = bit_xor (bit_and all u) (bit_and (bit_and all u) old)

-- of the named roles nobody who is sought has more than `spare` beyond those of `word`
abbrev pub NamedRight : Sought → Named → Type 0
NamedRight u n = (w : ℕ) → Fits u w → count_ones (fresh (authorised u.survey.now.plan.now w) n.roles (authorised u.survey.now.plan.now u.word)) ≤ n.spare
