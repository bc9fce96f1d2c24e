-- The length of a list's texts, added up item by item. Assumes nothing.
use Rattle.std.proofs.Common.{◌≡◌, ℕ, ◌+◌, List, [], ◌∷◌, ◌++◌, length, map, Option, Some, None, refl, ap, subst, arith, length-append, decimal, Bor}
use Rattle.std.specs.List.{flat_map}
use Rattle.std.specs.Fn.{Called}
use Rattle.std.specs.ControlFlow.{continue_value}
use Rattle.std.specs.declared.ops.ControlFlow.{ControlFlow}
use Rattle.std.specs.declared.slice.Iter.{Iter}
use Rattle.std.specs.Iterator.{TryFoldsItems, TryFoldTurn, YieldsThen}
use Rattle.std.specs.Option.{MatchOption}
use Rattle.std.specs.Slice.Iter.{iter_rest}
use Rattle.std.proofs.iter.Yields.{fronts}
use Rattle.std.proofs.lemmas.Iterator.{YieldsList-from_slice}
use Rattle.std.proofs.lemmas.Iterator.Consumers.{YieldsList-so_far, YieldsList-turn, YieldsList-end}
use Rattle.std.proofs.lemmas.Fn.{chained_keeps}
use Rattle.std.proofs.lemmas.List.Folds.{length-flat_map-take}
use denote.Param.Members.{Mut}
use Rattle.text_out.specs.Stores.{Measured, Lengthened}
use Rattle.text_out.specs.Written.{further, line}
use Rattle.text_out.proofs.Stored.{line_length}

abbrev Branches : (E : Type 0) → Option ℕ → ControlFlow E ℕ → Type 0
Branches E = λ w b. w ≡ continue_value b

lengthened_is : (a : ℕ) (t : List ℕ) (w v : Option ℕ) → w ≡ v → Lengthened a t w → Lengthened a t v
lengthened_is a t w v e h = subst (Lengthened a t) e h

total : {X : Type 0} → (X → List ℕ) → List (Bor X) → ℕ
total text xs = length (flat_map text (map (λ x. x.now) xs))

total-push : {X : Type 0} (text : X → List ℕ) (xs : List (Bor X)) (x : Bor X) → total text (xs ++ x ∷ []) ≡ total text xs + length (text x.now)
unfolding total
total-push text [] x = omega (arith, length-append (text x.now) [])
total-push text (y ∷ xs) x =
    let rest = λ (zs : List (Bor _)). flat_map text (map (λ z. z.now) zs) in
    omega (arith, total-push text xs x, length-append (text y.now) (rest xs), length-append (text y.now) (rest (xs ++ x ∷ [])))

-- a callee that adds the length of an item's text, as `try_fold` calls it on a slice's items
module _ {X F : Type 0} (g : Mut F (ℕ × (Bor X × Unit {0})) (Option ℕ)) (text : X → List ℕ) (f : F) (adds : (a : ℕ) (x : Bor X) (w : Option ℕ) (q : F) → Called g f (a, (x, tt)) w q → (q ≡ f) × Lengthened a (text x.now) w) where
  record SoFar (init : ℕ) (xs : List (Bor X)) (q : F × ℕ) : Type 0 where
    same : q.0 ≡ f
    sum : q.1 ≡ init + total text xs

  keeps : (E : Type 0) (init : ℕ) (xs : List (Bor X)) (p : F × ℕ) (x : Bor X) (q : F × ℕ) → SoFar init xs p → TryFoldTurn g (Branches E) p x q → SoFar init (xs ++ x ∷ []) q
  keeps E init xs p x q h k =
      let d = adds p.1 x k.0 q.0 (subst (λ j. Called g j (p.1, (x, tt)) k.0 q.0) h.same k.1) in
      let e = lengthened_is p.1 (text x.now) k.0 (Some q.1) k.2 d.1 in
      record { same = d.0; sum = omega (arith, total-push text xs x, h.sum, e) }

  ended : (E : Type 0) (s : Iter X) (all : List X) (init : ℕ) (r : Option ℕ) (u : Iter X) (xs : List (Bor X)) (o : Option (Bor X)) (j : F) (a : ℕ) → iter_rest s ≡ all → YieldsThen fronts s xs o u → SoFar init xs (j, a)
      → MatchOption o (r ≡ Some a) (λ x. (w : Option ℕ) × (h : F) × (e : E) × Called g j (a, (x, tt)) w h × (w ≡ None) × (r ≡ None)) → Lengthened init (flat_map text all) r
  unfolding total
  ended E s all init r u xs None j a i t h m =
      let e = (YieldsList-end (YieldsList-from_slice all i) xs t.0 t.1 None u refl t.2).0 in
      let l = ap (λ l. length (flat_map text l)) e in
      rw m (omega (arith, h.sum, l))
  ended E s all init r u xs (Some x) j a i t h m =
      let y = YieldsList-from_slice all i in
      let e = YieldsList-so_far y xs t.0 t.1 in
      let l = ap (λ l. length (flat_map text l)) e in
      let n = YieldsList-turn y xs t.0 t.1 (Some x) u x refl t.2 in
      let d = adds a x m.0 m.1 (subst (λ k. Called g k (a, (x, tt)) m.0 m.1) h.same m.3) in
      let b = lengthened_is a (text x.now) m.0 None m.4 d.1 in
      let p = length-flat_map-take text all (length xs) x.now n.0 in
      let i = ap (λ y. length (text y)) n.1 in
      rw m.5 (omega (arith, h.sum, l, b, p, i))

-- what such a `try_fold` gives
pub lengthened : {X F E : Type 0} {g : Mut F (ℕ × (Bor X × Unit {0})) (Option ℕ)} (text : X → List ℕ) {f : F} {s u : Iter X} {init : ℕ} {r : Option ℕ} (xs : List X) → iter_rest s ≡ xs → TryFoldsItems fronts g (Branches E) (λ _ w. w ≡ None) s f init r u → ((a : ℕ) (x : Bor X) (w : Option ℕ) (q : F) → Called g f (a, (x, tt)) w q → (q ≡ f) × Lengthened a (text x.now) w) → Lengthened init (flat_map text xs) r
unfolding total
lengthened {E = E} {g = g} text {f = f} {s = s} {u = u} {init = init} {r = r} xs e d adds =
    ended g text f adds E s xs init r u d.0 d.1 d.2 d.3 e d.4 (chained_keeps _ (SoFar g text f adds init) (keeps g text f adds E init) d.0 (f, init) (d.2, d.3) (record { same = refl; sum = omega arith }) d.5) d.6

pub measured_after : (x y : List ℕ) (n : ℕ) (r : Option ℕ) → n ≡ length x → Lengthened n y r → Measured (x ++ y) r
measured_after x y n None e h = omega (arith, h, length-append x y)
measured_after x y n (Some m) e h = omega (arith, h, length-append x y)

pub line_after : (n : ℕ) (ns : List ℕ) (w : ℕ) (r : Option ℕ) → w ≡ length (decimal n) → Lengthened (w + 2) (flat_map further ns) r → Measured (line (n ∷ ns)) r
line_after n ns w None e h = omega (arith, h, line_length n ns)
line_after n ns w (Some m) e h = omega (arith, h, line_length n ns)
