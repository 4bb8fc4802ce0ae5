use Rattle.std.proofs.Common.{◌∷◌, [], ◌++◌, Some, sym, ap, ◌∙◌, subst, arith}
use Rattle.std.specs.Option.{option_map}
use Rattle.pn_tree.specs.Tables.{content, element_in}
use Rattle.pn_tree.specs.Frames.{so_far, stacked, all_open, IsOpen, IsRoot}
use Rattle.pn_tree.specs.declared.tables.Slot.TheVariants as slots
use Rattle.pn_tree.proofs.CutLemmas.{nil_from}
use Rattle.pn_tree.proofs.SiteLemmas.{none_open, of_inner}
use Rattle.pn_tree.proofs.EndLemmas.{closed_grown, closed_within, closed_root, root_built, closed_within_other, within_built}
use Rattle.pn_tree.proofs.TableLemmas.{root_grown}
use Rattle.pn_tree.proofs.site.Site.end.Goals as goal

pub returns-in-None-clause-kept : goal.returns-in-None-clause-kept
returns-in-None-clause-kept c =
    let s = c.args.self.now in
    let t = content s.tables in
    let u = content c.close-place.new.tables in
    let rs = c.close-place.new.pending.items in
    let f = c.in-Some.node in
    let o = of_inner s.inner f (IsOpen t s.pending.items s.outer.items) (sym c.take.ensures.value ∙ c.in-Some.is) c.requires.kept.opened in
    none_open _ c.take.ensures.after (closed_within t u s.pending.items rs s.outer.items f c.close-place.ensures.closed c.requires.kept.tables o)
    (subst (IsRoot u) (sym c.close-place.ensures.place)
    (closed_root t u s.pending.items rs s.outer.items f c.close-place.ensures.closed c.requires.kept.tables o
    (nil_from s.outer.items (omega (arith, c.in-None.ensures.cases.0, s.outer.ok.0)))))

pub returns-in-None-clause-ended : goal.returns-in-None-clause-ended
returns-in-None-clause-ended c =
    let s = c.args.self.now in
    let t = content s.tables in
    let u = content c.close-place.new.tables in
    let rs = c.close-place.new.pending.items in
    let f = c.in-Some.node in
    let is = sym c.take.ensures.value ∙ c.in-Some.is in
    let o = of_inner s.inner f (IsOpen t s.pending.items s.outer.items) is c.requires.kept.opened in
    let place = c.close-place.ensures.place in
    let none = c.take.ensures.after in
    (λ j. record { root = Some (element_in 256 u (place j)); open_elements = all_open u rs (none j) c.pop.new.self.items })
    ∙ root_built t u s.pending.items rs s.outer.items f s.root s.inner c.close-place.ensures.closed c.requires.kept.tables o is
    (nil_from s.outer.items (omega (arith, c.in-None.ensures.cases.0, s.outer.ok.0)))

pub returns-in-Some-pop-clause-kept : goal.returns-in-Some-pop-clause-kept
returns-in-Some-pop-clause-kept c =
    let s = c.args.self.now in
    let t = content s.tables in
    let u = content c.close-place.new.tables in
    let rs = c.close-place.new.pending.items in
    let qs = c.with_kid.new.pending.items in
    let f = c.in-Some.node in
    let p = c.in-Some-pop.around in
    let closed = c.close-place.ensures.closed in
    let o = of_inner s.inner f (IsOpen t s.pending.items s.outer.items) (sym c.take.ensures.value ∙ c.in-Some.is) c.requires.kept.opened in
    let front = c.pop.new.self.items in
    let within =
    closed_within_other t u s.pending.items rs qs s.outer.items front f p closed c.requires.kept.tables o c.in-Some-pop.ensures.items
    (c.with_kid.ensures.pending ∙ ap (λ n. rs ++ (slots.Element n ∷ [])) c.close-place.ensures.place) in
    let room = c.close-place.ensures.room in
    record {
      tables = closed_within t u s.pending.items rs s.outer.items f closed c.requires.kept.tables o;
      root = root_grown t u (closed_grown t u s.pending.items rs f closed) c.requires.kept.tables s.root c.requires.kept.root;
      opened = subst (IsOpen u qs front) (sym c.with_kid.ensures.node) within.opened;
      room = record {
        nodes = omega (arith, room.nodes, c.len.ensures, c.in-Some-pop.ensures.cases);
        nodes_fit = omega (arith, room.nodes_fit, c.len.ensures, c.in-Some-pop.ensures.cases);
        kids = omega (arith, room.kids, c.len.ensures, c.in-Some-pop.ensures.cases, c.with_kid.ensures.len);
        kids_fit = omega (arith, room.kids_fit, c.len.ensures, c.in-Some-pop.ensures.cases, c.with_kid.ensures.len);
        places = omega (arith, room.places, c.len.ensures, c.in-Some-pop.ensures.cases, c.with_kid.ensures.len, c.with_kid.ensures.capacity);
      };
    }

pub returns-in-Some-pop-clause-ended : goal.returns-in-Some-pop-clause-ended
returns-in-Some-pop-clause-ended c =
    let s = c.args.self.now in
    let t = content s.tables in
    let u = content c.close-place.new.tables in
    let rs = c.close-place.new.pending.items in
    let qs = c.with_kid.new.pending.items in
    let f = c.in-Some.node in
    let p = c.in-Some-pop.around in
    let closed = c.close-place.ensures.closed in
    let is = sym c.take.ensures.value ∙ c.in-Some.is in
    let o = of_inner s.inner f (IsOpen t s.pending.items s.outer.items) is c.requires.kept.opened in
    let front = c.pop.new.self.items in
    let within =
    closed_within_other t u s.pending.items rs qs s.outer.items front f p closed c.requires.kept.tables o c.in-Some-pop.ensures.items
    (c.with_kid.ensures.pending ∙ ap (λ n. rs ++ (slots.Element n ∷ [])) c.close-place.ensures.place) in
    let node = c.with_kid.ensures.node in
    (λ j. record { root = option_map (element_in 256 u) s.root; open_elements = so_far u qs (node j) ∷ stacked u qs front [] })
    ∙ within_built t u s.pending.items rs qs s.outer.items front f p _ s.root s.inner within closed c.requires.kept.tables c.requires.kept.root is c.in-Some-pop.ensures.items
