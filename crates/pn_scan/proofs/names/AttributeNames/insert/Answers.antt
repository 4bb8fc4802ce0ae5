use Rattle.std.proofs.Common.{◌++◌, ◌∷◌, [], refl, subst}
use Rattle.indexmap.proofs.MapLemmas.{OnOk-map}
use Rattle.pn_scan.specs.Names.{Holds}
use Rattle.pn_scan.proofs.NameLemmas.{noted_first, noted_other}
use Rattle.pn_scan.proofs.names.AttributeNames.insert.Goals as goal

pub returns-then-len-lt12 : goal.returns-then-len-lt12
returns-then-len-lt12 c =
    let t = c.args.self.now in
    let n = c.args.name.now in
    OnOk-map c.push.result _ _
    (λ more e value h. noted_first t _ n value e h (λ names held. subst (λ w. Holds (names ++ (w ∷ [])) c.push.new.self) c.as_bytes.ensures.value (more names held)) (λ q. refl))
    c.push.ensures

pub returns : goal.returns
returns c =
    let t = c.args.self.now in
    OnOk-map c.note_name.result _ _ (λ more e value h. noted_other t _ c.args.name.now value e h refl more) c.note_name.ensures
