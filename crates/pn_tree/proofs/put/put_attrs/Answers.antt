use Rattle.std.proofs.Common.{◌∙◌}
use Rattle.pn_outside.proofs.TakingLemmas.{puts_failed}
use Rattle.pn_tree.specs.Canonical.{attr_text}
use Rattle.pn_tree.specs.Views.{element_of}
use Rattle.pn_tree.proofs.PutLemmas.{shown_failed, shown_taken}
use Rattle.pn_tree.proofs.put.put_attrs.Goals as goal

pub returns-in_err-put_attr-clause-puts : goal.returns-in_err-put_attr-clause-puts
returns-in_err-put_attr-clause-puts g c =
    puts_failed _ _ _ _ c.from_residual.result c.from_residual.ensures.0
    (shown_failed _ _ _ attr_text (element_of c.args.part).attrs c.loop-i.i _ c.attr.ensures c.loop-i.invariant.takes c.in_err-put_attr.ensures.puts.front)

pub loop-i-preserved : goal.loop-i-preserved
loop-i-preserved g c = record {
  takes = shown_taken _ _ _ attr_text (element_of c.args.part).attrs c.loop-i.i _ c.attr.ensures c.loop-i.invariant.takes c.in_ok-put_attr.ensures.puts.all;
  unfailed = c.in_ok-put_attr.ensures.counted ∙ c.loop-i.invariant.unfailed;
}
