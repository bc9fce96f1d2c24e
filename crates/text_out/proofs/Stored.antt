-- One store after another, and the lengths of what is stored. Assumes nothing.
use Rattle.std.proofs.Common.{◌≡◌, ℕ, ◌+◌, ◌/◌, ◌%◌, ◌^◌, ◌<◌, ◌≤◌, List, [], ◌∷◌, ◌++◌, length, get_or, take, decimal, sym, ap, ◌∙◌, arith, length-append}
use Rattle.std.specs.List.{flat_map}
use Rattle.std.proofs.lemmas.List.{take_more, flat_map_more}
use Rattle.std.proofs.lemmas.Fmt.{decimal_digit, decimal_step, length-decimal-le}
use Rattle.text_out.specs.Written.{newline, further, line}

pub digit_one : (n : ℕ) → n < 10 → decimal n ≡ (48 + n % 10) ∷ []
digit_one n l = let e : n ≡ n % 10 = omega arith in decimal_digit n l ∙ ap (λ k. (48 + k) ∷ []) e

pub width_one : (n : ℕ) → n < 10 → length (decimal n) ≡ 1
width_one n l = ap length (digit_one n l)

pub width_more : (n : ℕ) → 10 ≤ n → n < 2 ^ 64 → length (decimal n) ≡ length (decimal (n / 10)) + 1
width_more n l b = ap length (decimal_step n l b) ∙ length-append (decimal (n / 10)) ((48 + n % 10) ∷ [])

pub width_le : (n : ℕ) → n < 2 ^ 64 → length (decimal n) ≤ 20
width_le n l = length-decimal-le 20 n (omega arith) (omega arith) l

-- the parts of a joined list, one more
pub joined_take : {X : Type 0} (f : X → List ℕ) (xs : List X) (i : ℕ) (d : X) → i < length xs → flat_map f (take (i + 1) xs) ≡ flat_map f (take i xs) ++ f (get_or xs i d)
joined_take f xs i d l = ap (flat_map f) (take_more xs i d l) ∙ sym (flat_map_more f [] (take i xs) (get_or xs i d))

pub line_length : (n : ℕ) (ns : List ℕ) → length (line (n ∷ ns)) ≡ length (decimal n) + length (flat_map further ns) + 2
line_length n ns =
    let a = length-append (decimal n) (flat_map further ns ++ newline) in
    let b = length-append (flat_map further ns) newline in
    omega arith
