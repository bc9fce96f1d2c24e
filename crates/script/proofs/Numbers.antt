-- What is read of a word is the number that the word writes. Assumes nothing.
use Rattle.std.proofs.Common.{◌≡◌, ℕ, ◌^◌, ◌<◌, List, length, get_or, Ok, Err, decimal, Result, sym, ap, ◌∙◌, subst, inl, inr, eq-zero-or-pos, arith, MatchOption}
use Rattle.std.specs.Result.{result_ok}
use Rattle.std.specs.Str.Parse.{ParsesUnsigned, AllDigits, digits_value}
use Rattle.std.proofs.lemmas.Str.Parse.{IsNumeralModel, numerals_by_value, tells_digits, parse_plain, digit_at}
use Rattle.std.proofs.lemmas.Fmt.{decimal_is_IsNumeral, decimal_digit, decimal_nonempty, first_decimal, decimal-digits_value, parse-decimal, decimal_injective}
use Rattle.script.specs.Words.{Writes, Begins}

own : IsNumeralModel (AllDigits 10) (digits_value 10)
own = numerals_by_value (AllDigits 10) tells_digits

-- a number is written with a digit first, which is a 0 only where it stands alone
begins_decimal : (n : ℕ) → n < 2 ^ 32 → Begins (decimal n)
begins_decimal n h =
    let small : n < 2 ^ 64 = omega arith in
    let some : 0 < length (decimal n) = decimal_nonempty n small in
    let first = digit_at (decimal n) 0 (decimal_is_IsNumeral n small).0.1 some in
    record {
      some = some;
      low = first.0;
      high = first.1;
      alone = λ e. elim (eq-zero-or-pos n) [
        | inr more ↦ absurd (let l : 48 < get_or (decimal n) 0 0 = first_decimal n more small in omega arith)
        | inl none ↦ ap length (decimal_digit n (omega arith))
      ];
    }

pub begins_writes : (word : List ℕ) (n : ℕ) → Writes word n → Begins word
begins_writes word n w = subst (λ bs. Begins bs) (sym w.1) (begins_decimal n w.0)

-- what is read of a word that begins as a number does
pub read_is : (E : Type 0) (word : List ℕ) (r : Result ℕ E) → Begins word → ParsesUnsigned 32 10 word r → MatchOption (result_ok r) ((n : ℕ) → Writes word n → ⊥) (λ n. Writes word n)
read_is E word (Ok x) b h =
    let got = parse_plain own {E = E} 32 word (Ok x) h (λ e. let l = b.low in omega arith) in
    let digits = got.0.0 in
    let fits : digits_value 10 word < 2 ^ 32 = got.0.2 in
    let same : x ≡ digits_value 10 word = got.1 in
    let back : decimal (digits_value 10 word) ≡ word = decimal-digits_value own word digits b.some b.alone (omega arith) in
    (omega arith, sym back ∙ ap decimal (sym same))
read_is E word (Err e) b h = λ n w.
    let p : Err e ≡ Ok n = parse-decimal {E = E} 32 n word (Err e) w.0 (let l = w.0 in omega arith) w.1 h in
    let z : ◌≡◌ {A = ℕ} 0 1 = cc in
    omega arith

-- a word writes at most one number
pub one_number : (word : List ℕ) (m n : ℕ) → Writes word m → Writes word n → m ≡ n
one_number word m n v w = decimal_injective m n (let l = v.0 in omega arith) (let l = w.0 in omega arith) (sym v.1 ∙ w.1)
