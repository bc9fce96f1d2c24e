-- A script's lines, one after the other. Assumes nothing.
use Rattle.std.proofs.Common.{◌≡◌, ℕ, ◌+◌, List, sym, subst}
use Rattle.script.specs.Lines.{FirstLine}
use Rattle.console.specs.declared.running.Session.{Session}
use Rattle.console.specs.Printed.{Ran, begun, one_more, Lined}

pub ran_none : (script left : List ℕ) (n : ℕ) (a : Session) → left ≡ script → n ≡ 0 → Ran script a left n a
ran_none script left n a e f = subst (λ l. Ran script a l n a) (sym e) (subst (λ k. Ran script a script k a) (sym f) begun)

pub ran_more : (script left after line : List ℕ) (i n m : ℕ) (a b c : Session) → Ran script a left n b → FirstLine left line after → i ≡ n → m ≡ n + 1 → Lined b (i + 1) line c → Ran script a after m c
ran_more script left after line i n m a b c r f e g l = subst (λ k. Ran script a after k c) (sym g) (one_more r f (subst (λ k. Lined b (k + 1) line c) e l))
