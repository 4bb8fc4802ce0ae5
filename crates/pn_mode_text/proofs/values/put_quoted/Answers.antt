use Rattle.std.proofs.Common.{[], ◌∷◌, ◌++◌, ap, ◌∙◌, sym}
use Rattle.pn_lines.specs.Escapes.{escaped}
use Rattle.pn_mode_text.specs.Texts.{quoted_text}
use Rattle.pn_tree.proofs.PutLemmas.{puts_as}
use Rattle.pn_values.specs.declared.value.Value.TheViews.{out-Value}
use Rattle.pn_eval.proofs.MemberLemmas.{out_text_value}
use Rattle.pn_mode_text.proofs.values.put_quoted.Goals as goal

pub returns-in-Text-clause-puts : goal.returns-in-Text-clause-puts
returns-in-Text-clause-puts g c =
    puts_as _ _ _ _ c.put_between.result
    (ap (λ t. 34 ∷ (escaped t ++ 34 ∷ [])) c.as_str.ensures ∙ sym (ap (λ v. quoted_text (out-Value v)) c.in-Text.is ∙ ap quoted_text (out_text_value c.in-Text.text))) c.put_between.ensures.puts
