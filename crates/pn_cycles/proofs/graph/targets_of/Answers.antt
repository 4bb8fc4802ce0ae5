use Rattle.std.proofs.Common.{◌-◌, get_or, length, take, drop, sym, ap, ◌∙◌, add-one}
use Rattle.pn_cycles.proofs.Rows.{row_is}
use Rattle.pn_cycles.proofs.graph.targets_of.Goals as goal

pub returns : goal.returns
returns c =
    let starts = c.args.starts.now in
    let ends = c.args.ends.now in
    let start = get_or starts c.args.node 0 in
    ap (λ n. take (n - start) (drop start ends)) (c.next_start-end.ensures.next ∙ ap (λ i. get_or starts i (length ends)) (add-one c.args.node)) ∙ sym (row_is starts ends c.args.node c.requires.node)
