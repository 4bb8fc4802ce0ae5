use Rattle.std.proofs.Common.{◌≡◌, ℕ, suc, ◌<◌, ◌-◌, length, vec_len, get_or, false, Some, sym, ap, ◌∙◌, subst, arith}
use Rattle.std.proofs.lemmas.List.{get_or_read}
use Rattle.pn_cycles.specs.declared.search.Mark.TheVariants.{New, Open}
use Rattle.pn_cycles.specs.Searches.{mark_of, group_at, IsUnderWay, LeadTo}
use Rattle.pn_cycles.proofs.Taking.{takes, take_lead, take_edge, last_within, due_is_done}
use Rattle.pn_cycles.proofs.search.Search.step.Goals as goal
use Rattle.pn_cycles.proofs.search.Search.step.Goals.{After-take_last-node, After-index}

last : (c : After-take_last-node) → length c.args.self.now.path.items ≡ suc (vec_len c.args.self.now.path - 1)
last c = omega (arith, c.requires.some)

some : (c : After-take_last-node) → (group_at c.args.self.now.path.items (vec_len c.args.self.now.path - 1)).edges < length c.args.self.now.pending.items
some c =
    let within = last_within _ _ _ _ _ _ _ c.requires.search _ (last c) in
    let at : c.len.result - 1 ≡ vec_len c.args.self.now.path - 1 = omega arith in
    let inside : c.len.result - 1 < length c.args.self.now.path.items = omega (arith, c.requires.some) in
    let read : c.index-group.result.now ≡ group_at c.args.self.now.path.items (vec_len c.args.self.now.path - 1) = get_or_read c.args.self.now.path.items (c.len.result - 1) c.index-group.result.now inside c.index-group.ensures (record { start = 0; edges = 0; cyclic = false }) ∙ ap (λ i. group_at c.args.self.now.path.items i) at in
    let edges = ap (λ g. g.edges) read in
    omega (arith, within, edges, c.if-len-group.false)

-- the node is at the end of an edge of the last group
search : (c : After-take_last-node) → IsUnderWay c.args.graph.now (Some c.take_last-node.result) c.args.self.now.marks.items c.args.self.now.stack.items c.take_last-node.new.items.items c.args.self.now.path.items c.args.self.now.nodes.items c.args.self.now.cyclic.items
search c = takes _ _ _ _ _ _ _ _ _ c.requires.search c.take_last-node.ensures.items _ (last c) (some c)

lead : (c : After-take_last-node) → LeadTo c.args.graph.now c.args.self.now.stack.items c.take_last-node.result
lead c = take_lead _ _ _ _ _ _ _ _ _ c.requires.search c.take_last-node.ensures.items _ (last c) (some c)

node : (c : After-take_last-node) → c.take_last-node.result < length c.args.graph.now
node c =
    let edge = take_edge _ _ _ _ _ _ _ _ _ c.requires.search c.take_last-node.ensures.items _ (last c) (some c) in
    c.requires.whole.ends edge.0 c.take_last-node.result edge.1

-- its mark
read : (c : After-index) → c.take_last-node.result < length c.args.graph.now → c.index.result.now ≡ mark_of c.args.self.now.marks.items c.take_last-node.result
read c within =
    let inside : c.take_last-node.result < length c.args.self.now.marks.items = omega (arith, c.requires.search.marked) in
    get_or_read c.args.self.now.marks.items c.take_last-node.result c.index.result.now inside c.index.ensures New

open_at : (c : After-index) → c.take_last-node.result < length c.args.graph.now → (place : ℕ) → c.index.result.now ≡ Open place → (place < length c.args.self.now.stack.items) × (get_or c.args.self.now.stack.items place 0 ≡ c.take_last-node.result)
open_at c within place is = c.requires.search.stacked_at c.take_last-node.result place (sym (read c within) ∙ is)

pub index-requires : goal.index-requires
index-requires c = omega (arith, node (goal.at.index-requires c).After-take_last-node, c.requires.search.marked)

pub open-requires-clause-node : goal.open-requires-clause-node
open-requires-clause-node c = node (goal.at.open-requires-clause-node c).After-take_last-node

pub open-requires-clause-search : goal.open-requires-clause-search
open-requires-clause-search c = search (goal.at.open-requires-clause-search c).After-take_last-node

pub open-requires-clause-lead : goal.open-requires-clause-lead
open-requires-clause-lead c = lead (goal.at.open-requires-clause-lead c).After-take_last-node

pub join-requires-clause-search : goal.join-requires-clause-search
join-requires-clause-search c = (c.args.graph.now, Some c.take_last-node.result, search (goal.at.join-requires-clause-search c).After-take_last-node)

pub join-requires-clause-place : goal.join-requires-clause-place
join-requires-clause-place c =
    let at = goal.at.join-requires-clause-place c in
    let opened = open_at at.After-index (node at.After-take_last-node) c.in-Open.place c.in-Open.is in
    omega (arith, opened.0)

pub returns-in-Open-clause-search : goal.returns-in-Open-clause-search
returns-in-Open-clause-search c =
    let at = goal.at.returns-in-Open-clause-search c in
    let opened = open_at at.After-index (node at.After-take_last-node) c.in-Open.place c.in-Open.is in
    c.join.ensures.search c.args.graph.now
    (subst (λ n. IsUnderWay c.args.graph.now (Some n) c.args.self.now.marks.items c.args.self.now.stack.items c.take_last-node.new.items.items c.args.self.now.path.items c.args.self.now.nodes.items c.args.self.now.cyclic.items) (sym opened.1) (search at.After-take_last-node))
    (subst (LeadTo c.args.graph.now c.args.self.now.stack.items) (sym opened.1) (lead at.After-take_last-node))

pub returns-in-Done-clause-search : goal.returns-in-Done-clause-search
returns-in-Done-clause-search c = due_is_done _ _ _ _ _ _ _ _ _ (sym (read (goal.at.returns-in-Done-clause-search c).After-index (node (goal.at.returns-in-Done-clause-search c).After-take_last-node)) ∙ c.in-Done.is) (search (goal.at.returns-in-Done-clause-search c).After-take_last-node)
