use Rattle.std.proofs.Common.{◌≡◌, reverse, fold, List, Bool, ap, sym, ◌∙◌, rules}
use Rattle.std.specs.Slice.Iter.{iter_rest}
use Rattle.flag_table.proofs.Marks.{moved_up, read_back}
use Rattle.flag_table.proofs.word_of.Goals as goal

pub returns : goal.returns
returns c =
    let p = c.fold.ensures.runs in
    let r = c.rev.ensures.runs p.0 p.0.seen p.1 in
    let q = r.0 in
    let all : c.fold.result ≡ fold (λ row x. moved_up row x.now) 0 p.0.items = p.3 _ (λ row x next after called. (search rules, search rules)) in
    let same = ap (fold (λ row x. moved_up row x.now) 0) (sym r.2.0.1) in
    let back = (c.iter.ensures.runs_back q q.seen).5 moved_up 0 (r.2.1 ∙ p.2) in
    let rest = ap iter_rest r.1 ∙ c.iter.ensures.rest in
    all ∙ same ∙ back ∙ ap (λ (xs : List Bool). fold moved_up 0 (reverse xs)) rest ∙ read_back c.args.flags.now c.requires
