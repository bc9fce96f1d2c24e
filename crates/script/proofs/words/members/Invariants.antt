use Rattle.std.proofs.Common.{ℕ, ◌⊎◌, ◌↔◌, drop}
use Rattle.terms.specs.Sets.{In}
use Rattle.script.specs.Words.{Names}
use Rattle.script.proofs.words.members.Given as goal

abbrev pub invariant-loop-word : goal.invariant-loop-word
invariant-loop-word l = (k : ℕ) → (In k l.set ⊎ Names (drop l.word-index l.words) k) ↔ Names l.words k
