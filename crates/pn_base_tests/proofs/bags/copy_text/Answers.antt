use Rattle.std.proofs.Common.{◌≡◌, String, Global, Result, Ok, Err, IfOk, MatchResult, ap, ◌∙◌}
use Rattle.std.specs.Cmp.Lexicographic.{slice_cmp}
use Rattle.std.specs.Ordering.{nat_cmp}
use Rattle.std.specs.String.{string_bytes, string_cmp}
use Rattle.std.specs.declared.cmp.Ordering.TheVariants.{Equal}
use Rattle.std.proofs.lemmas.Cmp.{nat_list_cmp_total, tied_itself}
use Rattle.pn_base_tests.proofs.bags.copy_text.Goals as goal

-- texts of the same bytes compare Equal
same_text : {E : Type 0} (r : Result (String Global) E) (text : String Global) (Q : E → Type 0) → MatchResult r (λ t. string_bytes t ≡ string_bytes text) Q → IfOk r (λ again. string_cmp again text ≡ Equal)
same_text (Ok t) text Q same =
    ap (λ bs. slice_cmp nat_cmp bs (string_bytes text)) same ∙ tied_itself nat_list_cmp_total (string_bytes text)
same_text (Err e) text Q other = tt

pub returns : goal.returns
returns c = same_text c.clone.result c.args.text.now _ c.clone.ensures.cases
