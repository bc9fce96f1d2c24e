-- What the search for users who hold a set of permissions answers, and the questions that it goes through on the way.
use Rattle.std.specs.Prelude.{◌≡◌, ℕ, ◌+◌, ◌<◌, ◌≤◌, ◌⊎◌, List, [], ◌∷◌, ◌++◌, length}
use Rattle.terms.specs.Sets.{In, Within}
use Rattle.plan.specs.Authority.{held, Satisfies, AllSatisfy, held_by}
use Rattle.plan.specs.declared.Plan.{Plan}
use Rattle.holding.specs.Holding.{HeldWith}

-- users who satisfy the constraints and together hold all of u
pub record Covers (p : Plan) (u : ℕ) (ws : List ℕ) : Type 0 where
  pub satisfy : AllSatisfy p ws
  pub whole : Within u (held_by p ws)

-- at most n users do
pub record Coverable (p : Plan) (n u : ℕ) : Type 0 where
  pub users : List ℕ
  pub few : length users ≤ n
  pub cover : Covers p u users

-- us are the fewest who do, fewer than `below`
pub record Fewest (p : Plan) (u below : ℕ) (us : List ℕ) : Type 0 where
  pub cover : Covers p u us
  pub few : length us < below
  pub least : (ws : List ℕ) → Covers p u ws → length us ≤ length ws

-- ---- several users

-- A user who holds `mine`, and at most n others, who hold `left`; each permission of `opened` is held by him or by them.
pub record Share (p : Plan) (n opened mine left : ℕ) : Type 0 where
  pub user : ℕ
  pub others : List ℕ
  pub few : length others ≤ n
  pub satisfies : Satisfies p user
  pub satisfy : AllSatisfy p others
  pub own : Within mine (held p user)
  pub split : (k : ℕ) → In k opened → In k (held p user) ⊎ In k (held_by p others)
  pub rest : Within left (held_by p others)

-- at most n + 1 users who hold it all
pub record Shared (p : Plan) (n opened mine left : ℕ) (us : List ℕ) : Type 0 where
  pub satisfy : AllSatisfy p us
  pub own : Within mine (held_by p us)
  pub split : Within opened (held_by p us)
  pub rest : Within left (held_by p us)
  pub few : length us ≤ n + 1

-- one more user, with roles that hold `mine`
pub record JoinedBy (p : Plan) (mine : ℕ) (us r : List ℕ) : Type 0 where
  pub word : ℕ
  pub holder : HeldWith p mine word
  pub list : r ≡ us ++ (word ∷ [])
