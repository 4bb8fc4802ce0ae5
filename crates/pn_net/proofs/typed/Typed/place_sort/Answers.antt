use Rattle.std.proofs.Common.{◌<◌, length, sym, subst}
use Rattle.pn_net.proofs.TableLemmas.{sort_is, sort_there}
use Rattle.pn_net.specs.Typed.{IsSortOfPlace}
use Rattle.pn_net.proofs.typed.Typed.place_sort.Goals as goal

pub sort_in-requires : goal.sort_in-requires
sort_in-requires c = sort_there c.self.inside.flat _ _ _ c.self.invariant.tables c.args.place (subst (λ f. c.args.place < length f.places) (sym c.self.view_is) c.requires)

pub returns : goal.returns
returns c = subst (λ f. IsSortOfPlace f c.args.place c.sort_in.result.now) c.self.view_is (sort_is c.self.inside.flat _ _ _ c.self.invariant.tables c.args.place c.sort_in.result.now c.sort_in.ensures)
