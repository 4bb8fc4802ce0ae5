use Rattle.std.proofs.Common.{rules, ◌≡◌, Option, None, [], ◌∷◌, ◌++◌, sym, ◌∙◌, subst}
use Rattle.std.specs.List.{AllByRecursion}
use Rattle.pn_carriers.specs.Carriers.{choices}
use Rattle.pn_net.specs.declared.mode.Mode.{Mode}
use Rattle.pn_modes.specs.Prunes.{IsNext}
use Rattle.pn_modes.specs.Search.{to_come}
use Rattle.pn_modes.proofs.SiftLemmas.{all_modes, one_more_mode, one_more_transition, sifted_all}
use Rattle.pn_modes.proofs.walk.collect.Goals as goal

-- one more mode is found
pub loop-cursor-preserved : goal.loop-cursor-preserved
loop-cursor-preserved g c =
    let cs = g.P.Pruning.carriers c.args.over.now in
    let items : c.push.new.self.items ≡ c.loop-cursor.modes.items ++ c.in-Some.mode ∷ [] = search rules in
    let found = subst (λ (o : Option Mode). IsNext (g.P.Pruning.wanted c.args.over.now) c.loop-cursor.cursor.front.transition (to_come cs c.loop-cursor.cursor) o (to_come cs c.next.new.cursor)) c.in-Some.is c.in_ok-mode.ensures.next in
    record {
      at = c.next.ensures.at;
      transition = c.next.ensures.transition ∙ c.loop-cursor.invariant.transition;
      same = subst (AllByRecursion (λ (m : Mode). m.transition ≡ c.args.transition)) (sym items) (one_more_transition c.args.transition c.loop-cursor.modes.items c.in-Some.mode (found.2 ∙ c.loop-cursor.invariant.transition) c.loop-cursor.invariant.same);
      sifted = one_more_mode (g.P.Pruning.wanted c.args.over.now) (choices cs) c.loop-cursor.modes.items c.push.new.self.items c.in-Some.mode (to_come cs c.loop-cursor.cursor) (to_come cs c.next.new.cursor) items found.0 found.1 c.loop-cursor.invariant.sifted;
    }

-- none is to come
pub returns : goal.returns
returns g c =
    let cs = g.P.Pruning.carriers c.args.over.now in
    let none : c.in_ok-mode.field-0 ≡ None = search rules in
    let end = subst (λ (o : Option Mode). IsNext (g.P.Pruning.wanted c.args.over.now) c.loop-cursor.cursor.front.transition (to_come cs c.loop-cursor.cursor) o (to_come cs c.next.new.cursor)) none c.in_ok-mode.ensures.next in
    all_modes (g.P.Pruning.wanted c.args.over.now) cs c.args.transition c.loop-cursor.modes.items c.requires.ascending c.loop-cursor.invariant.same
    (sifted_all (g.P.Pruning.wanted c.args.over.now) (choices cs) c.loop-cursor.modes.items (to_come cs c.loop-cursor.cursor) end.0 c.loop-cursor.invariant.sifted)
