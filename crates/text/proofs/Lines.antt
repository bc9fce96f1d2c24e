-- A text has one first line. Assumes nothing.
use Rattle.std.proofs.Common.{◌≡◌, ℕ, ◌<◌, List, ⊎_elim, arith}
use Rattle.std.proofs.lemmas.Bool.{cases_order}
use Rattle.text.specs.FirstLine.{FirstLine, Headed}

not_before : (s : List ℕ) (i n j m : ℕ) → FirstLine s i n → FirstLine s j m → i < j → ⊥
not_before s i n j m h k l =
    ⊎_elim
    (λ e. k.first i l e.0)
    (λ e. ⊎_elim (λ f. let w = f.0.0 in let z = e.0 in omega arith) (λ f. let z = e.0 in let y = f.0 in omega arith) k.ends)
    h.ends

pub line_unique : (s : List ℕ) (i n j m : ℕ) → FirstLine s i n → FirstLine s j m → i ≡ j
line_unique s i n j m h k = ⊎_elim (λ e. e) (λ o. ⊎_elim (λ l. absurd (not_before s i n j m h k l)) (λ l. absurd (not_before s j m i n k h l)) o) (cases_order i j)

next_unique : (s : List ℕ) (i n j m : ℕ) → FirstLine s i n → FirstLine s j m → i ≡ j → n ≡ m
next_unique s i n j m h k e =
    ⊎_elim
    (λ a. ⊎_elim (λ b. let x = a.1 in let y = b.1 in omega arith) (λ b. let w = a.0.0 in let y = b.0 in absurd (omega arith)) k.ends)
    (λ a. ⊎_elim (λ b. let w = b.0.0 in let y = a.0 in absurd (omega arith)) (λ b. let x = a.1 in let y = b.1 in omega arith) k.ends)
    h.ends

-- the records of a text begin at one place
pub headed_unique : (header header' s : List ℕ) (n m : ℕ) → Headed header s n → Headed header' s m → n ≡ m
headed_unique header header' s n m h k = next_unique s h.end n k.end m h.line k.line (line_unique s h.end n k.end m h.line k.line)
