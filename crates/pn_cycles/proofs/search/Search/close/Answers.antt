use Rattle.std.proofs.Common.{◌≡◌, ℕ, ◌-◌, List, [], ◌∷◌, ◌++◌, length, vec_len, sym, ap, ◌∙◌, subst, arith, rules}
use Rattle.std.specs.Vec.{with_items}
use Rattle.std.proofs.lemmas.List.{with_items_is}
use Rattle.pn_cycles.specs.declared.search.Group.{Group}
use Rattle.pn_cycles.specs.Searches.{group_at, IsFinish}
use Rattle.pn_cycles.proofs.Closing.{closes, close_visits, last_top, last_length}
use Rattle.pn_cycles.proofs.Working.{work_less}
use Rattle.pn_cycles.proofs.search.Search.close.Goals as goal
use Rattle.pn_cycles.proofs.search.Search.close.Goals.{After-truncate}

-- the last group's edges are all looked at
edges_are : (path front : List Group) (group : Group) (n edges_end : ℕ) → path ≡ front ++ group ∷ [] → n ≡ length path → (group_at path (n - 1)).edges ≡ edges_end → group.edges ≡ edges_end
edges_are path front group n edges_end path_is n_is none =
    let at : n - 1 ≡ length front = omega (arith, last_length path front group path_is) in
    ap (λ g. g.edges) (sym (last_top path front group path_is) ∙ ap (λ i. group_at path i) (sym at)) ∙ none

no_edges : (c : After-truncate) → c.take_last-group.result.edges ≡ length c.args.self.now.pending.items
no_edges c = edges_are c.args.self.now.path.items _ _ (vec_len c.args.self.now.path) (length c.args.self.now.pending.items) c.take_last-group.ensures.items (omega arith) (search rules)

-- the nodes are done in the search's own lists
finish_is : (c : After-truncate) → IsFinish c.args.self.now.stack.items c.take_last-group.result (length c.args.self.now.stack.items) c.args.self.now.marks.items c.args.self.now.nodes.items c.args.self.now.cyclic.items (with_items c.args.self.now.marks c.finish.new.marks).items c.finish.new.nodes.items (with_items c.args.self.now.cyclic c.finish.new.cyclic).items
finish_is c =
    let done = c.in_ok-finish.ensures.finish in
    let stack = c.args.self.now.stack.items in
    let group = c.take_last-group.result in
    let nodes = c.args.self.now.nodes.items in
    let nodes' = c.finish.new.nodes.items in
    let marks : (with_items c.args.self.now.marks c.finish.new.marks).items ≡ c.finish.new.marks = with_items_is c.args.self.now.marks c.finish.new.marks (omega (arith, done.marks_sized, c.deref_mut.ensures.len)) in
    let cyclic : (with_items c.args.self.now.cyclic c.finish.new.cyclic).items ≡ c.finish.new.cyclic = with_items_is c.args.self.now.cyclic c.finish.new.cyclic (omega (arith, done.cyclic_sized, c.deref_mut-2.ensures.len)) in
    let s1 = subst (λ xs. IsFinish xs group (length xs) c.deref_mut.result.now nodes c.deref_mut-2.result.now c.finish.new.marks nodes' c.finish.new.cyclic) c.deref.ensures.value done in
    let s2 = subst (λ xs. IsFinish stack group (length stack) xs nodes c.deref_mut-2.result.now c.finish.new.marks nodes' c.finish.new.cyclic) c.deref_mut.ensures.value s1 in
    let s3 = subst (λ xs. IsFinish stack group (length stack) c.args.self.now.marks.items nodes xs c.finish.new.marks nodes' c.finish.new.cyclic) c.deref_mut-2.ensures.value s2 in
    let s4 = subst (λ xs. IsFinish stack group (length stack) c.args.self.now.marks.items nodes c.args.self.now.cyclic.items xs nodes' c.finish.new.cyclic) (sym marks) s3 in
    subst (λ xs. IsFinish stack group (length stack) c.args.self.now.marks.items nodes c.args.self.now.cyclic.items (with_items c.args.self.now.marks c.finish.new.marks).items nodes' xs) (sym cyclic) s4

pub returns-clause-search : goal.returns-clause-search
returns-clause-search c edges is = closes edges _ _ _ _ _ _ _ _ _ _ _ _ is c.take_last-group.ensures.items (no_edges c) (finish_is c) c.truncate.ensures.items

pub returns-clause-visits : goal.returns-clause-visits
returns-clause-visits c = close_visits _ _ _ _ c.truncate.new.self.items _ _ _ _ _ _ _ _ c.requires.search.1 c.take_last-group.ensures.items (no_edges c) (finish_is c) c.truncate.ensures.items

pub returns-clause-rest : goal.returns-clause-rest
returns-clause-rest c edges =
    omega (arith, c.take_last-group.ensures.shorter, work_less c.args.self.now.marks.items (with_items c.args.self.now.marks c.finish.new.marks).items edges (finish_is c).marks_sized (λ x h. returns-clause-visits c x))
