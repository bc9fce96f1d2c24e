use Rattle.std.proofs.Common.{◌≡◌, ◌+◌, Bool, false, List, length, get_or, fold, ap, ◌∙◌, arith, rules}
use Rattle.std.specs.Slice.Iter.{chunks_exact_rest, chunks_exact_size}
use Rattle.flag_table.specs.Sound.{digit}
use Rattle.flag_table.proofs.Marks.{counted_members, counted_few}
use Rattle.flag_table.proofs.FlagTable.member_count.Goals as goal

pub sum-requires-clause-fits : goal.sum-requires-clause-fits
sum-requires-clause-fits c p seen from =
    let r = c.args.role in
    let f = c.map.ensures.runs p seen from in
    let q = f.0 in
    let size : chunks_exact_size q.from ≡ 64 = ap chunks_exact_size f.1 ∙ c.chunks_exact.ensures.size in
    let rest = ap chunks_exact_rest f.1 ∙ c.chunks_exact.ensures.rest in
    let sum : fold (λ a x. a + x) 0 p.items ≡ fold (λ n x. n + digit (get_or x.now r false)) 0 q.items = f.2.4 _ _ 0 (λ x y after n called. (search rules, search rules)) in
    let few = counted_few q (chunks_exact_rest q.from) r (chunks_exact_size q.from) size (omega (arith, ap (λ (xs : List Bool). length xs) rest, c.used.ensures.few)) (c.chunks_exact.ensures.runs q q.seen (omega (arith, size))) in
    omega (arith, sum, few)

pub returns : goal.returns
returns c =
    let r = c.args.role in
    let p = c.sum.ensures.runs tt in
    let f = c.map.ensures.runs p.0 p.0.seen p.1 in
    let q = f.0 in
    let size : chunks_exact_size q.from ≡ 64 = ap chunks_exact_size f.1 ∙ c.chunks_exact.ensures.size in
    let rest = ap chunks_exact_rest f.1 ∙ c.chunks_exact.ensures.rest ∙ c.used.ensures.flags in
    let sum : fold (λ a x. a + x) 0 p.0.items ≡ fold (λ n x. n + digit (get_or x.now r false)) 0 q.items = f.2.4 _ _ 0 (λ x y after n called. (search rules, search rules)) in
    p.3 ∙ sum ∙ counted_members q c.args.self.now.flags.now (chunks_exact_rest q.from) r (chunks_exact_size q.from) (omega arith) size rest (f.2.0 ∙ p.2) (c.chunks_exact.ensures.runs q q.seen (omega (arith, size)))
