-- The members that words name. Assumes nothing.
use Rattle.std.proofs.Common.{◌≡◌, ℕ, zero, suc, ◌+◌, ◌^◌, ◌<◌, ◌⊎◌, ◌↔◌, List, [], ◌∷◌, length, get_or, drop, sym, ap, subst, inl, inr, arith, Bor}
use lib.Bits.{bit_or}
use Rattle.std.proofs.lemmas.List.{drop_more}
use Rattle.terms.specs.Sets.{In}
use Rattle.terms.proofs.Bits.{in_or, in_or_l, in_or_r, in_one, in_one_only}
use Rattle.script.specs.Words.{Writes, Names, AllMembers}
use Rattle.script.proofs.Numbers.{one_number}

abbrev pub Word : Type 0
Word = Bor (List ℕ)

-- each word of a list of members is one
pub member_at : (ws : List Word) (i : ℕ) (d : Word) → i < length ws → AllMembers ws → (n : ℕ) × (n < 64) × Writes (get_or ws i d).now n
member_at [] i d l a = absurd (omega arith)
member_at (w ∷ ws) zero d l a = a.0
member_at (w ∷ ws) (suc i) d l a = member_at ws i d (omega arith) a.1

-- one more member
grown : (set m k : ℕ) → In k (bit_or set (2 ^ m)) → In k set ⊎ (k ≡ m)
grown set m k h = elim (in_or set (2 ^ m) k h) [ inl a ↦ inl a | inr b ↦ inr (in_one_only m k b) ]

-- what the words from place i on name, by the first of them
pub names_more : (ws : List Word) (i : ℕ) (d : Word) (k : ℕ) → i < length ws → Names (drop i ws) k ≡ (Writes (get_or ws i d).now k ⊎ Names (drop (i + 1) ws) k)
names_more ws i d k l = ap (λ us. Names us k) (drop_more ws i d l)

-- one word on
pub turn : (ws : List Word) (i : ℕ) (d : Word) (set m : ℕ) → i < length ws → Writes (get_or ws i d).now m → ((k : ℕ) → (In k set ⊎ Names (drop i ws) k) ↔ Names ws k) → (k : ℕ) → (In k (bit_or set (2 ^ m)) ⊎ Names (drop (i + 1) ws) k) ↔ Names ws k
turn ws i d set m l w inv k =
    let e = names_more ws i d k l in
    let fold : (Writes (get_or ws i d).now k ⊎ Names (drop (i + 1) ws) k) → Names (drop i ws) k = λ h. subst (λ (t : Type 0). t) (sym e) h in
    let unfold_it : Names (drop i ws) k → (Writes (get_or ws i d).now k ⊎ Names (drop (i + 1) ws) k) = λ h. subst (λ (t : Type 0). t) e h in (
      λ h. (inv k).0 (elim h [
        | inl a ↦ elim (grown set m k a) [ inl b ↦ inl b | inr q ↦ inr (fold (inl (subst (λ n. Writes (get_or ws i d).now n) (sym q) w))) ]
        | inr b ↦ inr (fold (inr b))
      ]),
      λ h. elim ((inv k).1 h) [
        | inl a ↦ inl (in_or_l set (2 ^ m) k a)
        | inr b ↦ elim (unfold_it b) [
          | inl v ↦ inl (in_or_r set (2 ^ m) k (subst (λ n. In k (2 ^ n)) (one_number (get_or ws i d).now k m v w) (in_one k)))
          | inr n ↦ inr n
        ]
      ],
    )
