use Rattle.std.proofs.Common.{IfSome, ap, ◌∙◌, sym, subst}
use Rattle.pn_names.specs.Names.{constant_named}
use Rattle.pn_mode_text.specs.Unescaped.{Unescapes}
use Rattle.pn_mode_text.proofs.IdLemmas.{constant_found}
use Rattle.pn_mode_text.proofs.ids.look_up.Goals as goal

pub returns-in-Some-constant : goal.returns-in-Some-constant
returns-in-Some-constant c =
    let a = c.args in
    let items = a.decls.now in
    let read = c.in-Some.read in
    let front = subst (λ o. IfSome o (λ x. Unescapes a.marks.now x.0.0 x.0.1 x.1.now a.bytes.now)) c.in-Some.is c.in_ok-read.ensures.found in
    constant_found items a.place a.marks.now a.bytes.now read.0.0 read.0.1 read.1.now c.in-Some-constant.named c.requires.distinct c.requires.stops front
    (ap (constant_named items) (sym c.as_str.ensures) ∙ sym c.in-Some-constant.ensures.found) c.if-named-place.false
