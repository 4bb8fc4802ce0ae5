use Rattle.std.proofs.Common.{◌++◌, codes, refl}
use Rattle.pn_faults.specs.Reasons.{words_of}
use Rattle.pn_outside.proofs.TakingLemmas.{puts_then, puts_stop}
use Rattle.pn_tree.proofs.PutLemmas.{puts_as}
use Rattle.pn_lines.specs.Escapes.{escaped}
use Rattle.pn_report.proofs.LineLemmas.{fault_pieces}
use Rattle.pn_report.proofs.fault.put_fault.Goals as goal

pub returns-in_err-put_count-clause-puts : goal.returns-in_err-put_count-clause-puts
returns-in_err-put_count-clause-puts g c =
    let f = c.args.fault.now in
    puts_stop _ _ _ _ (codes ": " ++ (words_of f.reason ++ (codes ": " ++ (escaped f.detail ++ codes "\n"))))
    c.from_residual.result c.from_residual.ensures.0 c.in_err-put_count.ensures.puts.front

pub returns-in_err-put_text-clause-puts : goal.returns-in_err-put_text-clause-puts
returns-in_err-put_text-clause-puts g c =
    let f = c.args.fault.now in
    let r = c.from_residual-in_err-put_text.result in
    puts_then _ _ _ _ _ r c.in_ok-put_count.ensures.puts.all
    (puts_stop _ _ _ _ (words_of f.reason ++ (codes ": " ++ (escaped f.detail ++ codes "\n"))) r c.from_residual-in_err-put_text.ensures.0 c.in_err-put_text.ensures.puts.front)

pub returns-in_err-put_text-2-clause-puts : goal.returns-in_err-put_text-2-clause-puts
returns-in_err-put_text-2-clause-puts g c =
    let f = c.args.fault.now in
    let r = c.from_residual-in_err-put_text-2.result in
    puts_as _ _ _ _ r (fault_pieces f c.words.result.now f.detail c.words.ensures refl)
    (puts_then _ _ _ _ _ r c.in_ok-put_count.ensures.puts.all
    (puts_then _ _ _ _ _ r c.in_ok-put_text.ensures.puts.all
    (puts_stop _ _ _ _ (codes ": " ++ (escaped f.detail ++ codes "\n")) r c.from_residual-in_err-put_text-2.ensures.0 c.in_err-put_text-2.ensures.puts.front)))

pub returns-clause-puts : goal.returns-clause-puts
returns-clause-puts g c =
    let f = c.args.fault.now in
    let r = c.put_detail.result in
    puts_as _ _ _ _ r (fault_pieces f c.words.result.now c.as_str.result.now c.words.ensures c.as_str.ensures)
    (puts_then _ _ _ _ _ r c.in_ok-put_count.ensures.puts.all
    (puts_then _ _ _ _ _ r c.in_ok-put_text.ensures.puts.all (puts_then _ _ _ _ _ r c.in_ok-put_text-2.ensures.puts.all c.put_detail.ensures.puts)))
