use Rattle.pn_modes.proofs.ChoiceLemmas.{choices_ascend}
use Rattle.pn_modes.proofs.laws.choices_ascend.Goals as goal

pub returns : goal.returns
returns c widths sorts = choices_ascend widths sorts
