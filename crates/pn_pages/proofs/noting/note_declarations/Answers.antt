use Rattle.std.proofs.Common.{◌+◌, take, ap}
use Rattle.std.specs.List.{flat_map}
use Rattle.pn_net.specs.Ids.{declaration_holders}
use Rattle.pn_pages.proofs.NotingLemmas.{adds_alike, adds_then, flat_grows, whole}
use Rattle.pn_pages.proofs.noting.note_declarations.Goals as goal

pub loop-declaration-preserved : goal.loop-declaration-preserved
loop-declaration-preserved c o =
    let x = c.declaration-item.result in
    let xs = c.args.declarations.now in
    let i = c.loop-declaration.declaration-index in
    let f = declaration_holders in
    adds_then o (flat_map f (take i xs)) (f x) (flat_map f (take (i + 1) xs)) (flat_grows f xs i x c.loop-declaration-test.true c.declaration-item.is) (c.loop-declaration.invariant o) (c.in_ok-note_declaration.ensures o)

pub returns : goal.returns
returns c o =
    let xs = c.args.declarations.now in
    let i = c.loop-declaration.declaration-index in
    adds_alike o (flat_map declaration_holders (take i xs)) (flat_map declaration_holders xs) (ap (flat_map declaration_holders) (whole xs i c.loop-declaration-test.false)) (c.loop-declaration.invariant o)
