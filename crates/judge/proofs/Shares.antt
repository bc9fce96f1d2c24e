-- The steps of the search for several users. Assumes nothing.
use Rattle.std.proofs.Common.{◌≡◌, ℕ, ◌+◌, ◌-◌, ◌^◌, ◌<◌, ◌≤◌, ◌⊎◌, List, [], ◌∷◌, ◌++◌, length, Some, None, Option, sym, ap, subst, inl, inr, arith, MatchOption}
use lib.Bits.{bit_or}
use Rattle.std.proofs.lemmas.Bool.{cases_lt}
use Rattle.std.proofs.lemmas.List.{length-append}
use Rattle.terms.specs.Sets.{In, Within, Difference}
use Rattle.terms.proofs.Bits.{none_in, nothing_left, in_or_l, in_or_r, in_or, in_one, in_one_only}
use Rattle.plan.specs.Authority.{held, Satisfies, AllSatisfy, held_by}
use Rattle.plan.specs.declared.Plan.{Plan}
use Rattle.holding.specs.Holding.{HeldWith}
use Rattle.terms.specs.Lists.{listed}
use Rattle.terms.specs.declared.short_list.ShortList.{ShortList}
use Rattle.judge.specs.Search.{Covers, Coverable, Share, Shared, JoinedBy}

abbrev Users : Type 0
Users = ShortList ℕ 7

module _ (p : Plan) where
  pub all_append : (xs ys : List ℕ) → AllSatisfy p xs → AllSatisfy p ys → AllSatisfy p (xs ++ ys)
  all_append [] ys a b = b
  all_append (x ∷ xs) ys a b = (a.0, all_append xs ys a.1 b)

  pub held_first : (xs ys : List ℕ) (k : ℕ) → In k (held_by p xs) → In k (held_by p (xs ++ ys))
  held_first [] ys k h = none_in k h
  held_first (x ∷ xs) ys k h = elim (in_or (held p x) (held_by p xs) k h) [
    | inl a ↦ in_or_l (held p x) (held_by p (xs ++ ys)) k a
    | inr b ↦ in_or_r (held p x) (held_by p (xs ++ ys)) k (held_first xs ys k b)
  ]

  pub held_last : (xs ys : List ℕ) (k : ℕ) → In k (held_by p ys) → In k (held_by p (xs ++ ys))
  held_last [] ys k h = h
  held_last (x ∷ xs) ys k h = in_or_r (held p x) (held_by p (xs ++ ys)) k (held_last xs ys k h)

  -- somebody holds what is not empty
  pub some_user : (u : ℕ) → 0 < u → (ws : List ℕ) → Covers p u ws → 0 < length ws
  some_user u g [] c = let z = nothing_left u c.whole in absurd (omega arith)
  some_user u g (w ∷ ws) c = omega arith

  -- a list of users that holds k has one who does, and the others
  pub record Pulled (k : ℕ) (ws : List ℕ) : Type 0 where
    pub one : ℕ
    pub more : List ℕ
    pub count : length more + 1 ≡ length ws
    pub satisfies : AllSatisfy p ws → Satisfies p one
    pub satisfy : AllSatisfy p ws → AllSatisfy p more
    pub has_it : In k (held p one)
    pub all : (i : ℕ) → In i (held_by p ws) → In i (held p one) ⊎ In i (held_by p more)

  pub pull : (k : ℕ) (ws : List ℕ) → In k (held_by p ws) → Pulled k ws
  pull k [] h = none_in k h
  pull k (w ∷ ws) h = elim (in_or (held p w) (held_by p ws) k h) [
    | inl a ↦ record { one = w; more = ws; count = omega arith; satisfies = λ s. s.0; satisfy = λ s. s.1; has_it = a; all = λ i. in_or (held p w) (held_by p ws) i }
    | inr b ↦
        let r = pull k ws b in
        record {
          one = r.one;
          more = w ∷ r.more;
          count = omega (arith, r.count);
          satisfies = λ s. r.satisfies s.1;
          satisfy = λ s. (s.0, r.satisfy s.1);
          has_it = r.has_it;
          all = λ i j. elim (in_or (held p w) (held_by p ws) i j) [
            | inl c ↦ inr (in_or_l (held p w) (held_by p r.more) i c)
            | inr d ↦ elim (r.all i d) [ inl e ↦ inl e | inr f ↦ inr (in_or_r (held p w) (held_by p r.more) i f) ]
          ];
        }
  ]

  -- ---- several users

  module _ (n opened mine left : ℕ) where
    pub share_holder : (d : Share p n opened mine left) → HeldWith p mine d.user
    share_holder d = record {
      satisfies = d.satisfies;
      holds = d.own;
    }

    shared_with : (us r : List ℕ) (word : ℕ) → opened ≡ 0 → r ≡ us ++ (word ∷ [])
        → HeldWith p mine word → AllSatisfy p us → Within left (held_by p us) → length us ≤ n → Shared p n opened mine left r
    shared_with us r word z e h s l f = record {
      satisfy = subst (AllSatisfy p) (sym e) (all_append us (word ∷ []) s (h.satisfies, tt));
      own = λ k i. subst (λ ws. In k (held_by p ws)) (sym e) (held_last us (word ∷ []) k (in_or_l (held p word) 0 k (h.holds k i)));
      split = λ k i. none_in k (subst (In k) z i);
      rest = λ k i. subst (λ ws. In k (held_by p ws)) (sym e) (held_first us (word ∷ []) k (l k i));
      few = omega (arith, ap length e, length-append us (word ∷ []));
    }

    -- the first user, alone
    shared_alone : (us r : List ℕ) (word : ℕ) → opened ≡ 0 → left ≡ 0 → us ≡ [] → r ≡ us ++ (word ∷ [])
        → HeldWith p mine word → Shared p n opened mine left r
    shared_alone us r word z y m e h = shared_with us r word z e h
        (subst (AllSatisfy p) (sym m) tt)
        (λ k i. none_in k (subst (In k) y i))
        (omega (arith, ap length m))

    -- the first user, with what the search for him answered
    pub joined_alone : (us : List ℕ) (o : Option Users) → opened ≡ 0 → left ≡ 0 → us ≡ []
        → MatchOption o ((w : ℕ) → HeldWith p mine w → ⊥) (λ r. JoinedBy p mine us (listed r))
        → MatchOption o (Share p n opened mine left → ⊥) (λ r. Shared p n opened mine left (listed r))
    joined_alone us None z y m h = λ d. h d.user (share_holder d)
    joined_alone us (Some r) z y m h = shared_alone us (listed r) h.word z y m h.list h.holder

    pub joined_with : (us : List ℕ) (o : Option Users) → opened ≡ 0 → AllSatisfy p us → Within left (held_by p us) → length us ≤ n
        → MatchOption o ((w : ℕ) → HeldWith p mine w → ⊥) (λ r. JoinedBy p mine us (listed r))
        → MatchOption o (Share p n opened mine left → ⊥) (λ r. Shared p n opened mine left (listed r))
    joined_with us None z s l f h = λ d. h d.user (share_holder d)
    joined_with us (Some r) z s l f h = shared_with us (listed r) h.word z h.list h.holder s l f

    nobody_holds : (k : ℕ) (ws : List ℕ) → length ws ≤ 0 → In k (held_by p ws) → ⊥
    nobody_holds k [] l h = none_in k h
    nobody_holds k (w ∷ ws) l h = omega arith

    pub share_nobody : (k : ℕ) → n ≡ 0 → In k left → Share p n opened mine left → ⊥
    share_nobody k e h d = nobody_holds k d.others (omega (arith, d.few)) (d.rest k h)

    pub share_coverable : (m : ℕ) → n ≤ m → Share p n opened mine left → Coverable p m left
    share_coverable m l d = record { users = d.others; few = omega (arith, d.few); cover = record { satisfy = d.satisfy; whole = d.rest } }

  module _ (k b : ℕ) (e : b ≡ 2 ^ k) where
    pub one_in : In k b
    one_in = subst (In k) (sym e) (in_one k)

    one_only : (j : ℕ) → In j b → k ≡ j
    one_only j h = sym (in_one_only k j (subst (In j) e h))

    module _ (n opened rest : ℕ) (o : Difference opened b rest) where
      -- one user of a cover is taken for the first
      pub cover_share : In k opened → Coverable p n opened → Share p (n - 1) rest b 0
      cover_share h c =
          let q = pull k c.users (c.cover.whole k h) in
          record {
            user = q.one;
            others = q.more;
            few = omega (arith, q.count, c.few);
            satisfies = q.satisfies c.cover.satisfy;
            satisfy = q.satisfy c.cover.satisfy;
            own = λ j i. subst (λ x. In x (held p q.one)) (one_only j i) q.has_it;
            split = λ j i. q.all j (c.cover.whole j (o.inside j i));
            rest = λ j i. none_in j i;
          }

      -- users dealt to cover it all
      pub shared_all : (us : List ℕ) (m : ℕ) → Shared p m rest b 0 us → Within opened (held_by p us)
      shared_all us m d j h = elim (o.other j h) [ inl x ↦ d.own j x | inr y ↦ d.split j y ]

      module _ (mine left : ℕ) where
        pub shared_keep : (us : List ℕ) → Shared p n rest (bit_or mine b) left us → Shared p n opened mine left us
        shared_keep us d = record {
          satisfy = d.satisfy;
          few = d.few;
          rest = d.rest;
          own = λ j h. d.own j (in_or_l mine b j h);
          split = λ j h. elim (o.other j h) [ inl x ↦ d.own j (in_or_r mine b j x) | inr y ↦ d.split j y ];
        }

        pub shared_leave : (us : List ℕ) → Shared p n rest mine (bit_or left b) us → Shared p n opened mine left us
        shared_leave us d = record {
          satisfy = d.satisfy;
          few = d.few;
          own = d.own;
          rest = λ j h. d.rest j (in_or_l left b j h);
          split = λ j h. elim (o.other j h) [ inl x ↦ d.rest j (in_or_r left b j x) | inr y ↦ d.split j y ];
        }

        joined : (a s : ℕ) → Within a s → In k s → Within (bit_or a b) s
        joined a s w h j i = elim (in_or a b j i) [ inl x ↦ w j x | inr y ↦ subst (λ z. In z s) (one_only j y) h ]

        pub share_none : In k opened → (Share p n rest (bit_or mine b) left → ⊥) → (Share p n rest mine (bit_or left b) → ⊥) → Share p n opened mine left → ⊥
        share_none want no_keep no_leave d = elim (d.split k want) [
          | inl h ↦ no_keep (record {
            user = d.user;
            others = d.others;
            few = d.few;
            satisfies = d.satisfies;
            satisfy = d.satisfy;
            own = joined mine (held p d.user) d.own h;
            rest = d.rest;
            split = λ j i. d.split j (o.inside j i);
          })
          | inr h ↦ no_leave (record {
            user = d.user;
            others = d.others;
            few = d.few;
            satisfies = d.satisfies;
            satisfy = d.satisfy;
            own = d.own;
            rest = joined left (held_by p d.others) d.rest h;
            split = λ j i. d.split j (o.inside j i);
          })
        ]

        pub share_last : (r : Option Users) → In k opened → (Share p n rest (bit_or mine b) left → ⊥)
            → MatchOption r (Share p n rest mine (bit_or left b) → ⊥) (λ us. Shared p n rest mine (bit_or left b) (listed us))
            → MatchOption r (Share p n opened mine left → ⊥) (λ us. Shared p n opened mine left (listed us))
        share_last None want no_keep h = share_none want no_keep h
        share_last (Some us) want no_keep h = shared_leave (listed us) h

        pub share_alone : n ≡ 0 → In k opened → (Share p n rest (bit_or mine b) left → ⊥) → Share p n opened mine left → ⊥
        share_alone z want no_keep = share_none want no_keep (share_nobody n rest mine (bit_or left b) k z (in_or_r left b k one_in))

      pub more_users : In k opened → (Share p n rest b 0 → ⊥) → (ws : List ℕ) → Covers p opened ws → n + 1 < length ws
      more_users h no_share ws c = elim (cases_lt (n + 1) (length ws)) [
        | inl l ↦ l
        | inr m ↦
            let q = pull k ws (c.whole k h) in
            absurd (no_share (record {
              user = q.one;
              others = q.more;
              few = omega (arith, q.count);
              satisfies = q.satisfies c.satisfy;
              satisfy = q.satisfy c.satisfy;
              own = λ j i. subst (λ x. In x (held p q.one)) (one_only j i) q.has_it;
              split = λ j i. q.all j (c.whole j (o.inside j i));
              rest = λ j i. none_in j i;
            }))
      ]

    -- nobody holds k alone: nobody holds any set that has it
    pub barren_none : (u : ℕ) → In k u → ((w : ℕ) → HeldWith p b w → ⊥) → (ws : List ℕ) → Covers p u ws → ⊥
    barren_none u h no_holder ws c =
        let q = pull k ws (c.whole k h) in
        no_holder q.one (record {
          satisfies = q.satisfies c.satisfy;
          holds = λ j i. subst (λ x. In x (held p q.one)) (one_only j i) q.has_it;
        })
