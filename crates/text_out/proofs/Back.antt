-- A written table is read back. Assumes nothing.
use Rattle.std.proofs.Common.{◌≡◌, ℕ, ◌+◌, ◌^◌, ◌<◌, ◌≤◌, false, List, [], ◌∷◌, ◌++◌, map, length, take, drop, decimal, sym, refl, ap, ◌∙◌, subst, inl, ⊎_elim, append_assoc, arith, length-append, rules}
use Rattle.std.specs.List.{flat_map, AllZip}
use Rattle.std.proofs.lemmas.Fmt.{digits_decimal, digits_value-decimal, length-decimal-le, decimal_nonempty, first_decimal, decimal_digit}
use Rattle.std.proofs.lemmas.List.{take_at, drop_at, get_or_at, get_or_append_left, get_or-append-add}
use Rattle.std.proofs.lemmas.Str.Parse.{IsNumeralModel, numerals_by_fold}
use Rattle.std.proofs.lemmas.Bool.{cases_eq, cases_lt}
use Rattle.text.specs.declared.field.Mark.TheVariants.{Line}
use Rattle.text.specs.Grammar.{AllPlain, Recorded, Reading}
use Rattle.text.specs.Grammar.Recorded.{last, more}
use Rattle.text.specs.Grammar.ReadsTo.{none, next}
use Rattle.text.specs.Numbers.{AllDigits, value_after, Number}
use Rattle.text.specs.FirstLine.{LineAt, Headed}
use Rattle.text.proofs.Digits.{power_le}
use Rattle.text.proofs.Lines.{headed_unique}
use Rattle.text.proofs.Once.{reading_unique}
use Rattle.text_out.specs.Written.{newline, further, line, header_line, table}
use Rattle.text_out.specs.Tables.{Writes, WritesAll, Table, OneLine, Small, Writable, Back, RoundTrip}
use Rattle.text_out.specs.Stores.{Put}

own : IsNumeralModel AllDigits (value_after 0)
own = numerals_by_fold _ (search rules) value_after (search rules)

digits_plain : (c : List ℕ) → AllDigits c → AllPlain c
digits_plain [] a = tt
digits_plain (b ∷ c) a = let d = a.0 in ((λ e. omega arith, λ e. omega arith, λ e. omega arith, λ e. omega arith), digits_plain c a.1)

module _ (limit : ℕ) (some : 0 < limit) (few : limit ≤ 19) where
  fits : (n : ℕ) → n < 10 ^ limit → n < 2 ^ 64
  fits n l = let p = power_le limit 19 few in omega arith

  decimal_number : (n : ℕ) → n < 10 ^ limit → Number limit (decimal n) n
  decimal_number n l =
      let big = fits n l in
      record {
        numeral = record {
          digits = digits_decimal own n big;
          some = decimal_nonempty n big;
          few = length-decimal-le limit n some l big;
          lead = λ e. ⊎_elim (λ z. ap (λ k. length (decimal k)) z ∙ ap length (decimal_digit 0 (omega arith))) (λ z. let f = first_decimal n (omega arith) big in absurd (omega arith)) (cases_eq n 0);
        };
        means = sym (digits_value-decimal own n big);
      }

  decimal_plain : (n : ℕ) → n < 10 ^ limit → AllPlain (decimal n)
  decimal_plain n l = digits_plain (decimal n) (decimal_number n l).numeral.digits

  line_more : (n m : ℕ) (ns : List ℕ) → line (n ∷ m ∷ ns) ≡ decimal n ++ (44 ∷ line (m ∷ ns))
  line_more n m ns = ap (λ l. decimal n ++ (44 ∷ l)) (append_assoc (decimal m) (flat_map further ns) newline)

  line_recorded : (n : ℕ) (ns t : List ℕ) → n < 10 ^ limit → Small limit ns → Recorded (line (n ∷ ns) ++ t) (decimal n ∷ map decimal ns) t
  line_recorded n [] t l s =
      last {q = false} {mark = Line} (record { proper = decimal_plain n l; split = append_assoc (decimal n) newline t; ends = tt }) (λ e. let z : ◌≡◌ {A = ℕ} 0 1 = cc in omega arith)
  line_recorded n (m ∷ ns) t l s =
      more {mid = line (m ∷ ns) ++ t} {q = false} (record { proper = decimal_plain n l; split = ap (λ u. u ++ t) (line_more n m ns) ∙ append_assoc (decimal n) (44 ∷ line (m ∷ ns)) t; ends = tt }) (line_recorded m ns t s.0 s.1)

  line_some : (n : ℕ) (ns t : List ℕ) → n < 10 ^ limit → line (n ∷ ns) ++ t ≡ [] → ⊥
  line_some n ns t l e =
      let a = ap length e in
      let b = length-append (line (n ∷ ns)) t in
      let d = length-append (decimal n) (flat_map further ns ++ newline) in
      omega (arith, decimal_nonempty n (fits n l))

  lines_read : (rs : List (List ℕ)) → Writable limit rs → Reading (flat_map line rs) (map (map decimal) rs)
  lines_read [] w = none
  lines_read ([] ∷ rs) w = let l = w.0.0 in absurd (omega arith)
  lines_read ((n ∷ ns) ∷ rs) w = next (line_some n ns (flat_map line rs) w.0.1.0) (line_recorded n ns (flat_map line rs) w.0.1.0 w.0.1.1) (lines_read rs w.1)

  writes : (ns : List ℕ) → Small limit ns → Writes limit (map decimal ns) ns
  writes [] s = tt
  writes (n ∷ ns) s = (decimal_number n s.0, writes ns s.1)

  writes_all : (rs : List (List ℕ)) → Writable limit rs → WritesAll limit (map (map decimal) rs) rs
  writes_all [] w = tt
  writes_all (r ∷ rs) w = (writes r w.0.1, writes_all rs w.1)

line_end : (header t : List ℕ) (k : ℕ) → OneLine header → k < length header → LineAt (header ++ (newline ++ t)) k → ⊥
line_end header t k one l h =
    ⊎_elim
    (λ m. one k l (m, sym (get_or_append_left header (newline ++ t) 0 k l) ∙ h.1, sym (get_or_append_left header (newline ++ t) 0 (k + 1) m) ∙ h.2))
    (λ m.
    let e : k + 1 ≡ length header = omega arith in
    let z : ◌≡◌ {A = ℕ} 13 10 = sym (get_or_at header 13 (10 ∷ t) 0 (k + 1) (sym e)) ∙ h.2 in
    omega arith)
    (cases_lt (k + 1) (length header))

headed : (header t : List ℕ) → OneLine header → Headed header (header_line header ++ t) (length header + 2)
headed header t one =
    let a = append_assoc header newline t in
    let l = length-append header (newline ++ t) in
    let second = get_or-append-add header (newline ++ t) 1 0 in
    subst (λ s. Headed header s (length header + 2)) (sym a)
    (record {
      end = length header;
      line = record {
        first = λ k m h. line_end header t k one m h;
        ends = inl ((omega arith, get_or_at header 13 (10 ∷ t) 0 (length header) refl, second), refl);
      };
      same = take_at header (newline ++ t) (length header) refl;
    })

-- place by place, what stands beside a list is one list, if it is one item at each place
all_unique : {A B : Type 0} (R : A → B → Type 0) → ((x : A) (y z : B) → R x y → R x z → y ≡ z) → (xs : List A) (ys zs : List B) → AllZip R xs ys → AllZip R xs zs → ys ≡ zs
all_unique R u [] [] [] h k = refl
all_unique R u [] [] (z ∷ zs) h k = absurd k
all_unique R u [] (y ∷ ys) zs h k = absurd h
all_unique R u (x ∷ xs) [] zs h k = absurd h
all_unique R u (x ∷ xs) (y ∷ ys) [] h k = absurd k
all_unique R u (x ∷ xs) (y ∷ ys) (z ∷ zs) h k = cc (u x y z h.0 k.0, all_unique R u xs ys zs h.1 k.1)

numbers_unique : (limit : ℕ) (c : List ℕ) (n m : ℕ) → Number limit c n → Number limit c m → n ≡ m
numbers_unique limit c n m h k = let a = h.means in let b = k.means in cc

-- a text is a table of one list of records
table_unique : (limit : ℕ) (header text : List ℕ) (rs qs : List (List ℕ)) → Table limit header text rs → Table limit header text qs → rs ≡ qs
table_unique limit header text rs qs h k =
    let e = headed_unique header header text h.next k.next h.headed k.headed in
    let d = reading_unique (drop k.next text) h.contents k.contents (subst (λ n. Reading (drop n text) h.contents) e h.reading) k.reading in
    all_unique (Writes limit) (all_unique (Number limit) (numbers_unique limit)) k.contents rs qs (subst (λ c. WritesAll limit c rs) d h.numbers) k.numbers

pub round_trip : RoundTrip
round_trip header rs limit some few one w =
    let t : Table limit header (table header rs) rs = record {
      next = length header + 2;
      headed = headed header (flat_map line rs) one;
      contents = map (map decimal) rs;
      reading = subst (λ s. Reading s (map (map decimal) rs)) (sym (drop_at (header_line header) (flat_map line rs) (length header + 2) (length-append header newline))) (lines_read limit some few rs w);
      numbers = writes_all limit some few rs w;
    } in
    record { reads = t; once = λ qs k. table_unique limit header (table header rs) qs rs k t }

pub back_put : (header old new : List ℕ) (rs : List (List ℕ)) (end : ℕ) → Put old 0 (table header rs) end new → Back header rs (take end new)
back_put header old new rs end h = subst (Back header rs) (sym h.front) (round_trip header rs)
