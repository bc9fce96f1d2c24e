-- What the tables of the search say of a plan.
use Rattle.std.specs.Prelude.{◌≡◌, ℕ, ◌<◌, List, length, slice_index, slice_index_or}
use Rattle.plan.specs.declared.Plan.{Plan}
use Rattle.holding.specs.Holding.{HeldWith}
use Rattle.judge.specs.Search.{Coverable}
use Rattle.judge.specs.declared.memo.Single.{Single}
use Rattle.judge.specs.declared.memo.Single.TheVariants.{Unknown, Never, Held}
use Rattle.judge.specs.declared.memo.Known.{Known}
use Rattle.judge.specs.declared.memo.Memo.{Memo}

-- of one user and the set s: where it is known that none holds it, and where it is known that one does
abbrev pub SingleRight : Plan → ℕ → Single → Type 0
SingleRight p s v = (v ≡ Never → (w : ℕ) → HeldWith p s w → ⊥) × (v ≡ Held → ∥ ((w : ℕ) × HeldWith p s w) ∥₁)

-- n users cannot hold the set s together; of the empty set nothing is said
abbrev pub ShortRight : Plan → ℕ → ℕ → Type 0
ShortRight p s n = 0 < s → Coverable p n s → ⊥

-- what is known of the set s is right
abbrev pub KnownRight : Plan → ℕ → Known → Type 0
KnownRight p s k = SingleRight p s k.single × ShortRight p s k.short

abbrev pub nothing : Known
nothing = record { single = Unknown; short = 0 }

-- every slot is right: what it knows of its set
abbrev pub SlotsRight : Plan → List ℕ → List Known → Type 0
SlotsRight p sets known = (i : ℕ) → i < length sets → KnownRight p (slice_index sets i) (slice_index_or known i nothing)

abbrev pub MemoRight : Plan → Memo → Type 0
MemoRight p m = SlotsRight p m.sets.now m.known.now
