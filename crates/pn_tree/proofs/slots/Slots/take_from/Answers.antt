use Rattle.std.proofs.Common.{◌++◌, take, drop, map, sym, ap, ◌∙◌}
use Rattle.std.proofs.lemmas.List.{map-append, drop-map, take-map}
use Rattle.pn_tree.specs.Packed.{SlotList, slot_of}
use Rattle.pn_tree.proofs.slots.Slots.take_from.Goals as goal

pub returns-clause-moved : goal.returns-clause-moved
returns-clause-moved c =
    let kept = c.self.inside.kept.items in
    let rest = drop c.args.start c.other.inside.kept.items in
    ap (map slot_of) c.move_rest.ensures.moved
    ∙ map-append slot_of kept rest
    ∙ ap (λ (v : SlotList). v.items ++ map slot_of rest) c.self.view_is
    ∙ ap (λ l. c.args.self.now.items ++ l) (sym (drop-map slot_of c.args.start c.other.inside.kept.items))
    ∙ ap (λ (v : SlotList). c.args.self.now.items ++ drop c.args.start v.items) c.other.view_is

pub returns-clause-left : goal.returns-clause-left
returns-clause-left c =
    ap (map slot_of) c.move_rest.ensures.left
    ∙ sym (take-map slot_of c.args.start c.other.inside.kept.items)
    ∙ ap (λ (v : SlotList). take c.args.start v.items) c.other.view_is
