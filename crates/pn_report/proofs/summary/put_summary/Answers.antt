use Rattle.std.proofs.Common.{◌++◌, codes, refl}
use Rattle.pn_bag.specs.Copies.{total_of}
use Rattle.pn_outside.proofs.TakingLemmas.{puts_then, puts_stop}
use Rattle.pn_tree.proofs.PutLemmas.{puts_as}
use Rattle.pn_report.specs.Lines.{count_text}
use Rattle.pn_report.proofs.SummaryLemmas.{summary_pieces}
use Rattle.pn_report.proofs.summary.put_summary.Goals as goal

pub returns-in_err-put_sizes-clause-puts : goal.returns-in_err-put_sizes-clause-puts
returns-in_err-put_sizes-clause-puts g c =
    let f = c.flat-flat.result.now in
    let initial = c.args.initial.now in
    let r = c.from_residual-in_err-put_sizes.result in
    puts_as _ _ _ _ r
    (summary_pieces c.args.net.now f initial c.kind_word.result.now c.len.result c.len-2.result c.len-3.result (total_of initial)
    c.flat-flat.ensures.flat c.kind_word.ensures c.len.ensures c.len-2.ensures c.len-3.ensures refl)
    (puts_then _ _ _ _ _ r c.in_ok-put_text.ensures.puts.all
    (puts_stop _ _ _ _ (count_text (codes " tokens ") (total_of initial) ++ codes "\n") r c.from_residual-in_err-put_sizes.ensures.0
    c.in_err-put_sizes.ensures.puts.front))

pub returns-in_err-put_count-clause-puts : goal.returns-in_err-put_count-clause-puts
returns-in_err-put_count-clause-puts g c =
    let r = c.from_residual-in_err-put_count.result in
    puts_as _ _ _ _ r
    (summary_pieces c.args.net.now c.flat-flat.result.now c.args.initial.now c.kind_word.result.now c.len.result c.len-2.result c.len-3.result
    c.cardinality.result c.flat-flat.ensures.flat c.kind_word.ensures c.len.ensures c.len-2.ensures c.len-3.ensures c.cardinality.ensures)
    (puts_then _ _ _ _ _ r c.in_ok-put_text.ensures.puts.all
    (puts_then _ _ _ _ _ r c.in_ok-put_sizes.ensures.puts.all
    (puts_stop _ _ _ _ (codes "\n") r c.from_residual-in_err-put_count.ensures.0 c.in_err-put_count.ensures.puts.front)))

pub returns-clause-puts : goal.returns-clause-puts
returns-clause-puts g c =
    let r = c.put_text-2.result in
    puts_as _ _ _ _ r
    (summary_pieces c.args.net.now c.flat-flat.result.now c.args.initial.now c.kind_word.result.now c.len.result c.len-2.result c.len-3.result
    c.cardinality.result c.flat-flat.ensures.flat c.kind_word.ensures c.len.ensures c.len-2.ensures c.len-3.ensures c.cardinality.ensures)
    (puts_then _ _ _ _ _ r c.in_ok-put_text.ensures.puts.all
    (puts_then _ _ _ _ _ r c.in_ok-put_sizes.ensures.puts.all (puts_then _ _ _ _ _ r c.in_ok-put_count.ensures.puts.all c.put_text-2.ensures.puts)))
