-- A typed text stands for at most one row of bytes, byte after byte. Assumes nothing.
use Rattle.std.proofs.Common.{◌≡◌, ℕ, ◌+◌, ◌-◌, ◌<◌, ◌≤◌, List, [], ◌∷◌, ◌++◌, length, get_or, drop, add-zero, length-drop, Some, None, Option, sym, refl, ap, ◌∙◌, subst, inl, inr, append_assoc, arith, Bor, MatchOption}
use Rattle.std.proofs.lemmas.List.{get_or_past, get_or-drop}
use Rattle.script.specs.Literals.{HexDigit, ShortEscape, UnitAt, FirstUnit, Spells, Quoted}
use Rattle.script.specs.Literals.Spells.{none, more}

-- nothing is typed where the two ways after a backslash both fail
pub no_unit : (ts : List ℕ) (at : ℕ) → get_or ts at 0 ≡ 92 → ((b : ℕ) → ShortEscape (get_or ts (at + 1) 0) b → ⊥) → (get_or ts (at + 1) 0 ≡ 120 → (x y : ℕ) → HexDigit (get_or ts (at + 2) 0) x → HexDigit (get_or ts (at + 3) 0) y → ⊥) → (b next : ℕ) → UnitAt ts at b next → ⊥
no_unit ts at e no_short no_hex b next u =
    elim u [
      | inl p ↦ p.0.3 (sym p.1 ∙ e)
      | inr v ↦ elim v [
        | inl s ↦ no_short b s.1
        | inr h ↦ no_hex h.1 h.2.0 h.2.1 h.2.2 h.2.3
      ]
    ]

-- an x is no letter that is escaped alone
pub x_no_escape : (c b : ℕ) → c ≡ 120 → ShortEscape c b → ⊥
x_no_escape c b e h = grind arith

-- what get_or reads past the end is no digit
pub past_no_digit : (ts : List ℕ) (i x : ℕ) → length ts ≤ i → HexDigit (get_or ts i 0) x → ⊥
past_no_digit ts i x l h = let z : get_or ts i 0 ≡ 0 = get_or_past ts i 0 l in grind arith

-- how far one byte goes
unit_once : (ts : List ℕ) (at b n c m : ℕ) → UnitAt ts at b n → UnitAt ts at c m → n ≡ m
unit_once ts at b n c m u v =
    elim u [
      | inl p ↦ elim v [
        | inl q ↦ p.2 ∙ sym q.2
        | inr w ↦ absurd (p.0.3 (sym p.1 ∙ elim w [ inl s ↦ s.0 | inr h ↦ h.0 ]))
      ]
      | inr u' ↦ elim v [
        | inl q ↦ absurd (q.0.3 (sym q.1 ∙ elim u' [ inl s ↦ s.0 | inr h ↦ h.0 ]))
        | inr v' ↦ elim u' [
          | inl s ↦ elim v' [ inl t ↦ s.2 ∙ sym t.2 | inr h ↦ absurd (x_no_escape (get_or ts (at + 1) 0) b h.1 s.1) ]
          | inr g ↦ elim v' [ inl t ↦ absurd (x_no_escape (get_or ts (at + 1) 0) c g.1 t.1) | inr h ↦ g.3 ∙ sym h.3 ]
        ]
      ]
    ]

-- a byte takes a place or more
unit_later : (ts : List ℕ) (at b n : ℕ) → UnitAt ts at b n → at < n
unit_later ts at b n u =
    elim u [
      | inl p ↦ omega (arith, p.2)
      | inr v ↦ elim v [ inl s ↦ omega (arith, s.2) | inr h ↦ omega (arith, h.3) ]
    ]

-- the same bytes are typed with where the same is read
unit_same : (s t : List ℕ) (i j b n m : ℕ) → m + i ≡ n + j → ((k : ℕ) → get_or s (i + k) 0 ≡ get_or t (j + k) 0) → UnitAt s i b n → UnitAt t j b m
unit_same s t i j b n m e same u =
    let here : get_or s i 0 ≡ get_or t j 0 = simp add-zero at (same 0) in
    elim u [
      | inl p ↦ inl (p.0, sym here ∙ p.1, omega (arith, e, p.2))
      | inr v ↦ elim v [
        | inl p ↦ inr (inl (sym here ∙ p.0, subst (λ c. ShortEscape c b) (same 1) p.1, omega (arith, e, p.2)))
        | inr h ↦ inr (inr (sym here ∙ h.0, sym (same 1) ∙ h.1, (h.2.0, h.2.1, subst (λ c. HexDigit c h.2.0) (same 2) h.2.2, subst (λ c. HexDigit c h.2.1) (same 3) h.2.3, h.2.4), omega (arith, e, h.3)))
      ]
    ]

read_past : (s : List ℕ) (n at k i : ℕ) → k ≡ n + at → get_or s (k + i) 0 ≡ get_or (drop n s) (at + i) 0
read_past s n at k i e = let f : k + i ≡ n + (at + i) = omega arith in ap (λ j. get_or s j 0) f ∙ sym (get_or-drop n s (at + i) 0)

-- what is typed after n bytes, read there or in the whole
spells_drop : (s : List ℕ) (n at : ℕ) (bytes : List ℕ) → Spells (drop n s) at bytes → Spells s (n + at) bytes
spells_drop s n at [] (none l) = none (omega (arith, length-drop n s))
spells_drop s n at (c ∷ bytes) (more {b = b} {next = m} u h) =
    more (unit_same (drop n s) s at (n + at) _ m (n + m) (omega arith) (λ k. sym (read_past s n at (n + at) k refl)) u) (spells_drop s n m bytes h)

spells_back : (s : List ℕ) (n at k : ℕ) (bytes : List ℕ) → k ≡ n + at → Spells s k bytes → Spells (drop n s) at bytes
spells_back s n at k [] e (none l) = none (omega (arith, length-drop n s))
spells_back s n at k (c ∷ bytes) e (more {next = m} u h) =
    let later = unit_later s k _ m u in
    more (unit_same s (drop n s) k at _ m (m - n) (omega arith) (λ i. read_past s n at k i e) u) (spells_back s n (m - n) m bytes (omega arith) h)

-- a byte, and what follows it
spells_first : (s after : List ℕ) (b : ℕ) (bytes : List ℕ) → FirstUnit s b after → Spells after 0 bytes → Spells s 0 (b ∷ bytes)
spells_first s after b bytes f h = more f.1 (subst (λ n. Spells s n bytes) (add-zero f.0) (spells_drop s f.0 0 bytes (subst (λ t. Spells t 0 bytes) f.2 h)))

-- what follows a byte is typed too
pub spells_after : (s after : List ℕ) (b : ℕ) (bytes : List ℕ) → 0 < length s → FirstUnit s b after → Spells s 0 bytes → (rest : List ℕ) × Spells after 0 rest
spells_after s after b [] l f (none e) = absurd (omega arith)
spells_after s after b (c ∷ bytes) l f (more v h) = (bytes, subst (λ t. Spells t 0 bytes) (sym f.2) (spells_back s f.0 0 _ bytes (sym (unit_once s 0 b f.0 _ _ f.1 v) ∙ sym (add-zero f.0)) h))

-- where nothing is typed, no bytes are
pub spells_not : (ts : List ℕ) (bytes : List ℕ) → 0 < length ts → ((b n : ℕ) → UnitAt ts 0 b n → ⊥) → Spells ts 0 bytes → ⊥
spells_not ts [] l no_one (none e) = absurd (omega arith)
spells_not ts (c ∷ bytes) l no_one (more v s) = no_one _ _ v

-- one byte on
pub spells_more : (ts done s after : List ℕ) (b : ℕ) → FirstUnit s b after → ((bytes : List ℕ) → Spells s 0 bytes → Spells ts 0 (done ++ bytes)) → (bytes : List ℕ) → Spells after 0 bytes → Spells ts 0 ((done ++ (b ∷ [])) ++ bytes)
spells_more ts done s after b f before bytes h = subst (λ l. Spells ts 0 l) (sym (append_assoc done (b ∷ []) bytes)) (before (b ∷ bytes) (spells_first s after b bytes f h))

-- a text that begins with a quote is quoted if the rest ends in one
pub opened_inside : (typed opened : List ℕ) (r : Option (Bor (List ℕ))) → typed ≡ 34 ∷ opened → MatchOption r ((front : List ℕ) → opened ≡ front ++ (34 ∷ []) → ⊥) (λ x. opened ≡ x.now ++ (34 ∷ [])) → MatchOption r ((inner : List ℕ) → Quoted typed inner → ⊥) (λ x. Quoted typed x.now)
opened_inside typed opened None e not_ended = λ inner q. not_ended inner (let g : 34 ∷ opened ≡ 34 ∷ (inner ++ (34 ∷ [])) = sym e ∙ q in cc)
opened_inside typed opened (Some x) e ended = e ∙ ap (λ l. 34 ∷ l) ended
