use Rattle.std.proofs.Common.{sym, ◌∙◌}
use Rattle.pn_names.specs.Names.{widths_of}
use Rattle.pn_sorts.proofs.MemberLemmas.{member_text}
use Rattle.pn_sorts.proofs.decls.Decls.has_text.Goals as goal

pub returns : goal.returns
returns c = c.is_text.ensures ∙ sym (member_text (widths_of c.args.self.now) c.args.text.now)
