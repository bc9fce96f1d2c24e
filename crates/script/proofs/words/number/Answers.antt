use Rattle.std.proofs.Common.{ℕ, sym, subst, MatchOption}
use Rattle.std.proofs.lemmas.Bool.{both_ways}
use Rattle.script.specs.Words.{Writes}
use Rattle.script.proofs.Numbers.{begins_writes, read_is}
use Rattle.script.proofs.words.number.Goals as goal

-- a word that does not begin as a number does writes none
pub returns-then-not-begins : goal.returns-then-not-begins
returns-then-not-begins c n w = both_ways _ c.if-not-begins.true (c.begins.ensures.1 (begins_writes c.args.word.now n w))

pub returns : goal.returns
returns c =
    let word = c.args.word.now in
    let read = read_is _ word c.parse.result (c.begins.ensures.0 c.if-not-begins.false) c.parse.ensures.value.0 in
    subst (λ o. MatchOption o ((n : ℕ) → Writes word n → ⊥) (λ n. Writes word n)) (sym c.ok.ensures.value) read
