-- The outermost layer of a term, by what its node is; and what stands in all parts.
use Rattle.std.proofs.Common.{◌≡◌, ℕ, ℤ, List, Bool, sym, ap, ◌∙◌}
use Rattle.pn_operators.specs.declared.op.Op.{Op}
use Rattle.pn_syntax.specs.declared.sort_expr.SortExpr.{SortExpr}
use Rattle.pn_syntax.specs.declared.term.NumberSort.{NumberSort}
use Rattle.pn_syntax.specs.declared.term.Term.{Term}
use Rattle.pn_syntax.specs.declared.term.TermNode.{TermNode}
use Rattle.pn_syntax.specs.declared.term.TermNode.TheOpen as layer
use Rattle.pn_syntax.specs.declared.term.TermNode.TheVariants as nodes
use Rattle.pn_syntax.specs.declared.term.TermNode.TheVariants.{rolls-Variable, rolls-UserOp, rolls-Bool, rolls-Number, rolls-RangeConst, rolls-Text, rolls-All, rolls-Empty, rolls-EmptyList, rolls-PartitionOf, rolls-Apply}
use Rattle.pn_syntax.specs.declared.term.TermNode.TheViews.{out-TermNode, out-roll-TermNode}

pub out_variable : (n : TermNode) (name : List ℕ) → n ≡ nodes.Variable name → out-TermNode n ≡ layer.Variable name
out_variable n name is = ap out-TermNode (is ∙ sym (rolls-Variable name)) ∙ out-roll-TermNode (layer.Variable name)

pub out_constant : (n : TermNode) (name : List ℕ) → n ≡ nodes.UserOp name → out-TermNode n ≡ layer.UserOp name
out_constant n name is = ap out-TermNode (is ∙ sym (rolls-UserOp name)) ∙ out-roll-TermNode (layer.UserOp name)

pub out_truth : (n : TermNode) (truth : Bool) → n ≡ nodes.Bool truth → out-TermNode n ≡ layer.Bool truth
out_truth n truth is = ap out-TermNode (is ∙ sym (rolls-Bool truth)) ∙ out-roll-TermNode (layer.Bool truth)

pub out_number : (n : TermNode) (value : ℤ) (sort : NumberSort) → n ≡ nodes.Number value sort → out-TermNode n ≡ layer.Number value sort
out_number n value sort is = ap out-TermNode (is ∙ sym (rolls-Number value sort)) ∙ out-roll-TermNode (layer.Number value sort)

pub out_range : (n : TermNode) (value start end : ℤ) → n ≡ nodes.RangeConst value start end → out-TermNode n ≡ layer.RangeConst value start end
out_range n value start end is = ap out-TermNode (is ∙ sym (rolls-RangeConst value start end)) ∙ out-roll-TermNode (layer.RangeConst value start end)

pub out_text : (n : TermNode) (text : List ℕ) → n ≡ nodes.Text text → out-TermNode n ≡ layer.Text text
out_text n text is = ap out-TermNode (is ∙ sym (rolls-Text text)) ∙ out-roll-TermNode (layer.Text text)

pub out_all : (n : TermNode) (e : SortExpr) → n ≡ nodes.All e → out-TermNode n ≡ layer.All e
out_all n e is = ap out-TermNode (is ∙ sym (rolls-All e)) ∙ out-roll-TermNode (layer.All e)

pub out_empty : (n : TermNode) (e : SortExpr) → n ≡ nodes.Empty e → out-TermNode n ≡ layer.Empty e
out_empty n e is = ap out-TermNode (is ∙ sym (rolls-Empty e)) ∙ out-roll-TermNode (layer.Empty e)

pub out_empty_list : (n : TermNode) (e : SortExpr) → n ≡ nodes.EmptyList e → out-TermNode n ≡ layer.EmptyList e
out_empty_list n e is = ap out-TermNode (is ∙ sym (rolls-EmptyList e)) ∙ out-roll-TermNode (layer.EmptyList e)

pub out_element : (n : TermNode) (name : List ℕ) (arg : Term) → n ≡ nodes.PartitionOf name arg → out-TermNode n ≡ layer.PartitionOf name arg
out_element n name arg is = ap out-TermNode (is ∙ sym (rolls-PartitionOf name arg)) ∙ out-roll-TermNode (layer.PartitionOf name arg)

pub out_apply : (n : TermNode) (o : Op) (args : List Term) → n ≡ nodes.Apply o args → out-TermNode n ≡ layer.Apply o args
out_apply n o args is = ap out-TermNode (is ∙ sym (rolls-Apply o args)) ∙ out-roll-TermNode (layer.Apply o args)
