use Rattle.std.proofs.Common.{ap, sym, ◌∙◌, subst}
use Rattle.std.specs.Option.{option_copied}
use Rattle.pn_sorts.specs.Settling.{IsSortEntryIn}
use Rattle.pn_sorts.proofs.SettleLemmas.{is_name, is_no_name}
use Rattle.pn_sorts.proofs.settle.named_entry.Goals as goal

pub returns-in-Some-named : goal.returns-in-Some-named
returns-in-Some-named c items e table node =
    let got = ap option_copied c.in-Some-named.is in
    let name = is_name items c.args.index.now c.args.table.now e c.args.name.now c.in-Some.place table node (sym c.sort_place.ensures ∙ c.in-Some.is) in
    subst (IsSortEntryIn items e) (sym got ∙ c.named.ensures.kept) (c.named.ensures.some c.in-Some-named.field-0.now got items c.args.index.now table e name)

pub returns-in-None-named : goal.returns-in-None-named
returns-in-None-named c items e table node =
    let name = is_name items c.args.index.now c.args.table.now e c.args.name.now c.in-Some.place table node (sym c.sort_place.ensures ∙ c.in-Some.is) in
    c.named.ensures.none (ap option_copied c.in-None-named.is) items c.args.index.now table e name

pub returns-in-None : goal.returns-in-None
returns-in-None c items e table node = is_no_name items c.args.index.now c.args.table.now e c.args.name.now table node (sym c.sort_place.ensures ∙ c.in-None.is)
