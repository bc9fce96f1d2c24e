use Rattle.std.proofs.Common.{◌≡◌, ℕ, length, get_or, inl, inr, refl, sym, ap, ◌∙◌, unwrap_or, map, max, rules, arith}
use lib.Bits.{bit_and}
use lib.Count.{ones}
use Rattle.std.specs.List.{range_with_len, reduce}
use Rattle.std.proofs.lemmas.Bool.{cases_lt}
use Rattle.std.proofs.lemmas.Iterator.Adapters.{option_map_id}
use Rattle.std.proofs.lemmas.Iterator.{YieldsList-from_range, YieldsList-from_map}
use Rattle.std.proofs.lemmas.Iterator.Consumers.{max_from_yields_List}
use Rattle.std.proofs.lemmas.List.FromFn.{length-map-range_with_len, get_or-map-range_with_len}
use Rattle.terms.proofs.Sizes.{past_none}
use Rattle.holding.proofs.Most.{most_of}
use Rattle.holding.proofs.bounding.most.Goals as goal

pub returns : goal.returns
returns c a =
    let grants = c.args.plan.now.grants in
    let len : length grants ≡ 64 = c.args.plan.now.whole in
    let h : ℕ → ℕ = λ x. ones (bit_and (get_or grants x 0) c.args.wanted) in
    let e = max_from_yields_List c.map.result c.max.result c.max.ensures.ran (YieldsList-from_map _ h (YieldsList-from_range 0 64 64 c.map.ensures.source refl) c.map.ensures.closure (λ x r q k. search rules)) in
    elim (cases_lt a 64) [
      | inl l ↦
          let m = most_of (map h (range_with_len 0 64)) a (omega (arith, length-map-range_with_len h 0 64)) in
          let same : c.unwrap_or.result ≡ unwrap_or (reduce max (map h (range_with_len 0 64))) 0 = c.unwrap_or.ensures ∙ ap (λ o. unwrap_or o 0) (sym (option_map_id c.max.result) ∙ e) in
          omega (arith, m, same, get_or-map-range_with_len h 0 64 a a 0 l (omega arith))
      | inr m ↦ omega (arith, past_none grants a c.args.wanted (omega arith))
    ]
