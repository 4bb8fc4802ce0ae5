use Rattle.std.proofs.Common.{map, string_bytes, subst}
use Rattle.std.specs.List.{Contains}
use Rattle.pn_stepping.proofs.StepLemmas.{told_assigned}
use Rattle.pn_stepping.proofs.stepping.join_words.Goals as goal

pub join-requires : goal.join-requires
join-requires c = λ x has.
    told_assigned c.args.net.now (map string_bytes c.args.words.now) c.tell_all.new.entries.items c.in-Ok.ensures.told.told x (subst (λ l. Contains l x) c.deref.ensures.value has)
