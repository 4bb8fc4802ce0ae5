use Rattle.std.proofs.Common.{◌≡◌, ◌++◌, ◌∷◌, [], length, length-append, sym, ◌∙◌, arith}
use Rattle.pn_scan.proofs.NameLemmas.{names_popped, names_length}
use Rattle.pn_scan.proofs.names.Names.pop.Goals as goal

pub returns-in-Some : goal.returns-in-Some
returns-in-Some c names w h =
    let t = c.args.self.now in
    names_popped names w t.bytes.items c.truncate.new.self.items t.spans.items c.pop.new.self.items c.in-Some.last h c.in-Some.ensures.items c.truncate.ensures.items

pub returns-in_default : goal.returns-in_default
returns-in_default c names w h =
    let t = c.args.self.now in
    let none : length t.spans.items ≡ 0 = sym t.spans.ok.0 ∙ c.in_default.ensures.cases.0 in
    absurd (omega (arith, names_length (names ++ (w ∷ [])) t.bytes.items t.spans.items h, length-append names (w ∷ [])))
