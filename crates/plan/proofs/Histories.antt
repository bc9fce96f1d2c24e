-- One addition more to a plan. Assumes nothing.
use Rattle.std.proofs.Common.{◌≡◌, ℕ, ◌+◌, ◌^◌, ◌<◌, true, false, not, ◌&&◌, ◌||◌, eqb, ltb, leb, ◌≢◌, ◌⊎◌, List, [], ◌∷◌, ◌++◌, length, get_or, take, set, is_ok, Ok, Err, Result, sym, refl, ap, ◌∙◌, subst, inl, inr, arith, below_more}
use lib.Bits.{bit_or}
use lib.Count.{ones}
use Rattle.std.specs.Result.{result_err}
use Rattle.std.specs.Option.{option_map}
use Rattle.std.proofs.lemmas.Bool.{cases_eq}
use Rattle.std.proofs.lemmas.List.{append-nil, append_assoc, get_or-set_same, get_or-set_other, take-set-le, take_more_set, map-set, get_or-map, set-get_or}
use Rattle.terms.specs.Sets.{In}
use Rattle.terms.specs.Lists.{listed}
use Rattle.plan.specs.Order.{Over, Reflexive, Transitive}
use Rattle.plan.specs.Authority.{policies_of, constraints_of, policy_count, constraint_count}
use Rattle.plan.specs.Refusing.{shown}
use Rattle.terms.specs.Refusals.{when, first_of, refusal}
use Rattle.plan.specs.Adding.{SeniorAdded}
use Rattle.plan.specs.History.{rows, Added, additions, made, accepted, seniors, grants, policies, constraints, Listed, Reaches, itself, step, Means, Answered}
use Rattle.plan.specs.declared.Plan.{Plan}
use Rattle.plan.specs.declared.PlanFault.{PlanFault}
use Rattle.plan.specs.declared.Addition.{Addition}
use Rattle.plan.specs.declared.Addition.TheVariants as add
use Rattle.plan.specs.declared.Entry.{Entry}
use Rattle.terms.proofs.Bits.{in_or_l, in_or_r, in_or, in_one, in_one_only, bit_zero, same_bit}

-- lists joined
seniors_join : (xs ys : List Addition) → seniors (xs ++ ys) ≡ seniors xs ++ seniors ys
seniors_join [] ys = refl
seniors_join (add.Senior s j ∷ xs) ys = ap (λ l. (s, j) ∷ l) (seniors_join xs ys)
seniors_join (add.Grant r m ∷ xs) ys = seniors_join xs ys
seniors_join (add.Policy w k ∷ xs) ys = seniors_join xs ys
seniors_join (add.Constraint w t ∷ xs) ys = seniors_join xs ys

grants_join : (xs ys : List Addition) → grants (xs ++ ys) ≡ grants xs ++ grants ys
grants_join [] ys = refl
grants_join (add.Senior s j ∷ xs) ys = grants_join xs ys
grants_join (add.Grant r m ∷ xs) ys = ap (λ l. (r, m) ∷ l) (grants_join xs ys)
grants_join (add.Policy w k ∷ xs) ys = grants_join xs ys
grants_join (add.Constraint w t ∷ xs) ys = grants_join xs ys

policies_join : (xs ys : List Addition) → policies (xs ++ ys) ≡ policies xs ++ policies ys
policies_join [] ys = refl
policies_join (add.Senior s j ∷ xs) ys = policies_join xs ys
policies_join (add.Grant r m ∷ xs) ys = policies_join xs ys
policies_join (add.Policy w k ∷ xs) ys = ap (λ l. record { permissions = w; least = k } ∷ l) (policies_join xs ys)
policies_join (add.Constraint w t ∷ xs) ys = policies_join xs ys

constraints_join : (xs ys : List Addition) → constraints (xs ++ ys) ≡ constraints xs ++ constraints ys
constraints_join [] ys = refl
constraints_join (add.Senior s j ∷ xs) ys = constraints_join xs ys
constraints_join (add.Grant r m ∷ xs) ys = constraints_join xs ys
constraints_join (add.Policy w k ∷ xs) ys = constraints_join xs ys
constraints_join (add.Constraint w t ∷ xs) ys = ap (λ l. record { roles = w; limit = t } ∷ l) (constraints_join xs ys)

accepted_more : (log : List Entry) (e : Entry) → accepted (log ++ (e ∷ [])) ≡ accepted log ++ made e.addition e.answer
accepted_more [] e = append-nil (made e.addition e.answer)
accepted_more (x ∷ log) e = ap (λ l. made x.addition x.answer ++ l) (accepted_more log e) ∙ sym (append_assoc (made x.addition x.answer) (accepted log) (made e.addition e.answer))

module _ (a b : ℕ) where
  listed_first : (ps qs : List (ℕ × ℕ)) → Listed a b ps → Listed a b (ps ++ qs)
  listed_first [] qs h = absurd h
  listed_first (p ∷ ps) qs (inl h) = inl h
  listed_first (p ∷ ps) qs (inr h) = inr (listed_first ps qs h)

  listed_last : (ps qs : List (ℕ × ℕ)) → Listed a b qs → Listed a b (ps ++ qs)
  listed_last [] qs h = h
  listed_last (p ∷ ps) qs h = inr (listed_last ps qs h)

  listed_one : (ps : List (ℕ × ℕ)) (s j : ℕ) → Listed a b (ps ++ ((s, j) ∷ [])) → Listed a b ps ⊎ ((s ≡ a) × (j ≡ b))
  listed_one [] s j (inl h) = inr h
  listed_one [] s j (inr h) = absurd h
  listed_one (p ∷ ps) s j (inl h) = inl (inl h)
  listed_one (p ∷ ps) s j (inr h) = elim (listed_one ps s j h) [ inl x ↦ inl (inr x) | inr x ↦ inr x ]

-- the closure
reaches_low : {ps : List (ℕ × ℕ)} {a b : ℕ} → Reaches ps a b → a < 64
reaches_low (itself l) = l
reaches_low (step l m r) = l

reaches_more : {ps : List (ℕ × ℕ)} {a b : ℕ} → (qs : List (ℕ × ℕ)) → Reaches ps a b → Reaches (ps ++ qs) a b
reaches_more qs (itself l) = itself l
reaches_more qs (step l m r) = step l (listed_first _ _ _ qs m) (reaches_more qs r)

through : {ps : List (ℕ × ℕ)} {a b c : ℕ} → Reaches ps a b → Reaches ps b c → Reaches ps a c
through (itself l) t = t
through (step l m r) t = step l m (through r t)

closed : (rows : List ℕ) → Reflexive rows → Transitive rows → {ps : List (ℕ × ℕ)} {a b : ℕ} → ((x y : ℕ) → x < 64 → y < 64 → Listed x y ps → Over rows x y) → Reaches ps a b → Over rows a b
closed rows re tr has (itself l) = re _ l
closed rows re tr has (step l m r) = tr (_, _, _) (has _ _ l (reaches_low r) m, closed rows re tr has r)

abbrev SeniorsAre : List (ℕ × ℕ) → List ℕ → Type 0
SeniorsAre ps rows = ((a b : ℕ) → Over rows a b → Reaches ps a b) × ((a b : ℕ) → Reaches ps a b → Over rows a b)

abbrev GrantsAre : List (ℕ × ℕ) → List ℕ → Type 0
GrantsAre ps rows = ((r m : ℕ) → In m (get_or rows r 0) → Listed r m ps) × ((r m : ℕ) → Listed r m ps → In m (get_or rows r 0))

senior_step : (ps : List (ℕ × ℕ)) (p q : Plan) (s j : ℕ) → SeniorsAre ps p.juniors → SeniorAdded p s j q → SeniorsAre (ps ++ ((s, j) ∷ [])) q.juniors
senior_step ps p q s j are h =
    let new : Reaches (ps ++ ((s, j) ∷ [])) s j = step h.senior (listed_last s j ps ((s, j) ∷ []) (inl (refl, refl))) (itself h.junior) in (
      (λ a b o. elim (h.only a b o) [
        | inl x ↦ reaches_more ((s, j) ∷ []) (are.0 a b x)
        | inr x ↦ through (reaches_more ((s, j) ∷ []) (are.0 a s x.0)) (through new (reaches_more ((s, j) ∷ []) (are.0 j b x.1)))
      ]),
      (λ a b r. closed q.juniors q.reflexive q.transitive
          (λ x y lx ly l. elim (listed_one x y ps s j l) [
            | inl m ↦ h.keeps x y (are.1 x y (step lx m (itself ly)))
            | inr e ↦ subst (λ z. Over q.juniors z y) e.0 (subst (λ z. Over q.juniors s z) e.1
                (h.gains s j (p.reflexive s h.senior) (p.reflexive j h.junior)))
          ]) r),
    )

module _ (ps : List (ℕ × ℕ)) (rows : List ℕ) (r m : ℕ) (low : r < length rows) (are : GrantsAre ps rows) where
  abbrev word : ℕ
  word = bit_or (get_or rows r 0) (2 ^ m)

  grant_only' : (a k : ℕ) → In k (get_or (set rows r word) a 0) → Listed a k (ps ++ ((r, m) ∷ []))
  grant_only' a k h = elim (cases_eq a r) [
    | inl e ↦ elim (in_or (get_or rows r 0) (2 ^ m) k (subst (In k) (ap (λ x. get_or (set rows r word) x 0) e ∙ get_or-set_same rows r word 0 low) h)) [
      | inl o ↦ listed_first a k ps ((r, m) ∷ []) (are.0 a k (subst (λ x. In k (get_or rows x 0)) (sym e) o))
      | inr o ↦ listed_last a k ps ((r, m) ∷ []) (inl (sym e, sym (in_one_only m k o)))
    ]
    | inr n ↦ listed_first a k ps ((r, m) ∷ []) (are.0 a k (subst (In k) (get_or-set_other rows r a word 0 n) h))
  ]

  grant_old : (a k : ℕ) → In k (get_or rows a 0) → In k (get_or (set rows r word) a 0)
  grant_old a k h = elim (cases_eq a r) [
    | inl e ↦ subst (In k) (sym (ap (λ x. get_or (set rows r word) x 0) e ∙ get_or-set_same rows r word 0 low)) (in_or_l (get_or rows r 0) (2 ^ m) k (subst (λ x. In k (get_or rows x 0)) e h))
    | inr n ↦ subst (In k) (sym (get_or-set_other rows r a word 0 n)) h
  ]

  grant_new : In m (get_or (set rows r word) r 0)
  grant_new = subst (In m) (sym (get_or-set_same rows r word 0 low)) (in_or_r (get_or rows r 0) (2 ^ m) m (in_one m))

  grant_step : GrantsAre (ps ++ ((r, m) ∷ [])) (set rows r word)
  grant_step = (
    grant_only',
    (λ a k l. elim (listed_one a k ps r m l) [
      | inl x ↦ grant_old a k (are.1 a k x)
      | inr e ↦ subst (λ z. In k (get_or (set rows r word) z 0)) e.0 (subst (λ z. In z (get_or (set rows r word) r 0)) e.1 grant_new)
    ]),
  )

module _ (xs : List Addition) (p q : Plan) (m : Means xs p) where
  -- the parts that an addition x leaves
  seniors_stay : (x : Addition) → seniors (x ∷ []) ≡ [] → q.juniors ≡ p.juniors → SeniorsAre (seniors (xs ++ (x ∷ []))) q.juniors
  seniors_stay x n e = subst (λ ps. SeniorsAre ps q.juniors) (sym (seniors_join xs (x ∷ []) ∙ ap (λ l. seniors xs ++ l) n ∙ append-nil (seniors xs)))
      (subst (SeniorsAre (seniors xs)) (sym e) (m.senior_only, m.senior_all))

  grants_stay : (x : Addition) → grants (x ∷ []) ≡ [] → q.grants ≡ p.grants → GrantsAre (grants (xs ++ (x ∷ []))) q.grants
  grants_stay x n e = subst (λ ps. GrantsAre ps q.grants) (sym (grants_join xs (x ∷ []) ∙ ap (λ l. grants xs ++ l) n ∙ append-nil (grants xs)))
      (subst (GrantsAre (grants xs)) (sym e) (m.grant_only, m.grant_all))

  policies_stay : (x : Addition) → policies (x ∷ []) ≡ [] → q.policies ≡ p.policies → policies_of q ≡ policies (xs ++ (x ∷ []))
  policies_stay x n e = ap listed e ∙ m.policies ∙ sym (policies_join xs (x ∷ []) ∙ ap (λ l. policies xs ++ l) n ∙ append-nil (policies xs))

  constraints_stay : (x : Addition) → constraints (x ∷ []) ≡ [] → q.constraints ≡ p.constraints → constraints_of q ≡ constraints (xs ++ (x ∷ []))
  constraints_stay x n e = ap listed e ∙ m.constraints ∙ sym (constraints_join xs (x ∷ []) ∙ ap (λ l. constraints xs ++ l) n ∙ append-nil (constraints xs))

  pub means_more : (x : Addition) → Added p x q → Means (xs ++ (x ∷ [])) q
  means_more (add.Senior s j) h =
      let are = subst (λ ps. SeniorsAre ps q.juniors) (sym (seniors_join xs (add.Senior s j ∷ []))) (senior_step (seniors xs) p q s j (m.senior_only, m.senior_all) h) in
      let gr = grants_stay (add.Senior s j) refl h.grants in
      record {
        senior_only = are.0;
        senior_all = are.1;
        grant_only = gr.0;
        grant_all = gr.1;
        policies = policies_stay (add.Senior s j) refl h.policies;
        constraints = constraints_stay (add.Senior s j) refl h.constraints;
      }
  means_more (add.Grant r k) h =
      let are = seniors_stay (add.Grant r k) refl h.juniors in
      let gr = subst (λ ps. GrantsAre ps q.grants) (sym (grants_join xs (add.Grant r k ∷ [])))
      (subst (GrantsAre (grants xs ++ ((r, k) ∷ []))) (sym h.grants) (grant_step (grants xs) p.grants r k h.role (m.grant_only, m.grant_all))) in
      record {
        senior_only = are.0;
        senior_all = are.1;
        grant_only = gr.0;
        grant_all = gr.1;
        policies = policies_stay (add.Grant r k) refl h.policies;
        constraints = constraints_stay (add.Grant r k) refl h.constraints;
      }
  means_more (add.Policy w k) h =
      let are = seniors_stay (add.Policy w k) refl h.juniors in
      let gr = grants_stay (add.Policy w k) refl h.grants in
      record {
        senior_only = are.0;
        senior_all = are.1;
        grant_only = gr.0;
        grant_all = gr.1;
        policies = h.policies ∙ ap (λ l. l ++ (record { permissions = w; least = k } ∷ [])) m.policies ∙ sym (policies_join xs (add.Policy w k ∷ []));
        constraints = constraints_stay (add.Policy w k) refl h.constraints;
      }
  means_more (add.Constraint w t) h =
      let are = seniors_stay (add.Constraint w t) refl h.juniors in
      let gr = grants_stay (add.Constraint w t) refl h.grants in
      record {
        senior_only = are.0;
        senior_all = are.1;
        grant_only = gr.0;
        grant_all = gr.1;
        policies = policies_stay (add.Constraint w t) refl h.policies;
        constraints = h.constraints ∙ ap (λ l. l ++ (record { roles = w; limit = t } ∷ [])) m.constraints ∙ sym (constraints_join xs (add.Constraint w t ∷ []));
      }

  pub means_made : (x : Addition) (r : Result Unit PlanFault) → (is_ok r ≡ false → q ≡ p) → (is_ok r ≡ true → Added p x q) → Means (xs ++ made x r) q
  means_made x (Ok u) left new = means_more x (new refl)
  means_made x (Err f) left new = subst (λ l. Means l q) (sym (append-nil xs)) (subst (Means xs) (sym (left refl)) m)

-- the empty plan
pub means_none : (p : Plan) → ((a b : ℕ) → Over p.juniors a b → (a ≡ b) × (a < 64)) → ((a : ℕ) → get_or p.grants a 0 ≡ 0) → policies_of p ≡ [] → constraints_of p ≡ [] → Means [] p
means_none p alone granted asked bound = record {
  senior_only = λ a b o. let h = alone a b o in subst (λ x. Reaches [] a x) h.0 (itself h.1);
  senior_all = λ a b r. closed p.juniors p.reflexive p.transitive (λ x y lx ly l. absurd l) r;
  grant_only = λ r m h. let z = subst (In m) (granted r) h in absurd (omega (arith, bit_zero m));
  grant_all = λ r m l. absurd l;
  policies = asked;
  constraints = bound;
}

pub policies_counted : (xs : List Addition) (p : Plan) → Means xs p → policy_count p ≡ length (policies xs)
policies_counted xs p m = ap length m.policies

pub constraints_counted : (xs : List Addition) (p : Plan) → Means xs p → constraint_count p ≡ length (constraints xs)
constraints_counted xs p m = ap length m.constraints

-- two plans that mean the same give the same answers
pub rows_same : (xs : List Addition) (p q : Plan) → Means xs p → Means xs q → (x : Addition) → rows p x ≡ rows q x
rows_same xs p q m n (add.Senior s j) = ap (λ b. first_of (when (ltb 63 s || ltb 63 j) (refusal 1 []) ∷ when (not (eqb s j) && eqb b 1) (refusal 3 []) ∷ []))
    (same_bit (get_or p.juniors j 0) (get_or q.juniors j 0) s (λ h. n.senior_all j s (m.senior_only j s h)) (λ h. m.senior_all j s (n.senior_only j s h)))
rows_same xs p q m n (add.Grant r k) = refl
rows_same xs p q m n (add.Policy w k) = ap (λ b. first_of (when (ltb k 2 || ltb (ones w) k || ltb 8 k) (refusal 4 []) ∷ when (ltb 16 (ones w)) (refusal 5 []) ∷ when (leb 32 b) (refusal 6 []) ∷ []))
    (policies_counted xs p m ∙ sym (policies_counted xs q n))
rows_same xs p q m n (add.Constraint w t) = ap (λ b. first_of (when (ltb t 2 || ltb (ones w) t) (refusal 4 []) ∷ when (leb 64 b) (refusal 6 []) ∷ []))
    (constraints_counted xs p m ∙ sym (constraints_counted xs q n))

-- one entry more of a log
module _ (log : List Entry) (i : ℕ) (x : Entry) (low : i < length log) (p : Plan) (m : Means (accepted (take i log)) p) where
  pub turn_additions : (d : Entry) → x.addition ≡ (get_or log i d).addition → additions (set log i x) ≡ additions log
  turn_additions d e = map-set (λ y. y.addition) log i x ∙ ap (set (additions log) i) (e ∙ sym (get_or-map (λ y. y.addition) log i d d.addition low)) ∙ set-get_or (additions log) i d.addition

  answered_old : (n : ℕ) → n < i → Answered log n → Answered (set log i x) n
  answered_old n l h =
      let ne : n ≢ i = omega arith in
      let before = take-set-le n log i x (omega arith) in
      record {
        so_far = h.so_far;
        means = subst (λ es. Means (accepted es) h.so_far) (sym before) h.means;
        answer = λ q k. subst (λ (e : Entry). option_map shown (result_err e.answer) ≡ rows q e.addition) (sym (get_or-set_other log i n x _ ne)) (h.answer q (subst (λ es. Means (accepted es) q) before k));
      }

  answered_new : option_map shown (result_err x.answer) ≡ rows p x.addition → Answered (set log i x) i
  answered_new a =
      let before = take-set-le i log i x (omega arith) in
      record {
        so_far = p;
        means = subst (λ es. Means (accepted es) p) (sym before) m;
        answer = λ q k. subst (λ (e : Entry). option_map shown (result_err e.answer) ≡ rows q e.addition) (sym (get_or-set_same log i x _ low))
            (a ∙ rows_same (accepted (take i log)) p q m (subst (λ es. Means (accepted es) q) before k) x.addition);
      }

  pub turn_answered : ((n : ℕ) → n < i → Answered log n) → option_map shown (result_err x.answer) ≡ rows p x.addition → (n : ℕ) → n < i + 1 → Answered (set log i x) n
  turn_answered each a = below_more (Answered (set log i x)) i (λ n l. answered_old n l (each n l)) (answered_new a)

  pub turn_means : (q : Plan) → (is_ok x.answer ≡ false → q ≡ p) → (is_ok x.answer ≡ true → Added p x.addition q) → Means (accepted (take (i + 1) (set log i x))) q
  turn_means q left new = subst (λ l. Means l q) (sym (ap accepted (take_more_set log i x low) ∙ accepted_more (take i log) x)) (means_made (accepted (take i log)) p q m x.addition x.answer left new)
