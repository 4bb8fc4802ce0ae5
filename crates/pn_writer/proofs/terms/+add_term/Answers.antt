use Rattle.std.proofs.Common.{rules, ◌≡◌, [], ◌∷◌, OnOk, codes, sym, subst, ap, ◌∙◌}
use Rattle.pn_tree.specs.Building.{at_innermost, with_kid}
use Rattle.pn_tree.specs.declared.element.Child.TheVariants as children
use Rattle.pn_syntax.specs.declared.term.TermNode.TheViews.{the_lemmas}
use Rattle.pn_spelling.specs.Writing.{attribute, attributed, made}
use Rattle.pn_spelling.specs.WriteTerms.{subterm, term_element}
use Rattle.pn_writer.specs.Giving.{MayTakeElement}
use Rattle.pn_writer.proofs.GivingLemmas.{added, entry, first_of, inside, next_mapped_fits}
use Rattle.pn_spelling.proofs.WriteLemmas.{user_element, partition_element, apply_element}
use Rattle.pn_writer.proofs.terms.+add_term.Goals as goal

pub add_subterms-begin-requires-clause-depth : goal.add_subterms-begin-requires-clause-depth
add_subterms-begin-requires-clause-depth t c =
    (entry _ _ _ _ _ (next_mapped_fits subterm term_element c.args.args.now _ c.loop-arg.arg-index c.arg-item.result c.args.into.now c.loop-arg.into c.requires c.loop-arg.invariant c.loop-arg-test.true c.arg-item.is)).room.room

pub add_subterms-add_term-requires : goal.add_subterms-add_term-requires
add_subterms-add_term-requires t c =
    let may = next_mapped_fits subterm term_element c.args.args.now _ c.loop-arg.arg-index c.arg-item.result c.args.into.now c.loop-arg.into c.requires c.loop-arg.invariant c.loop-arg-test.true c.arg-item.is in
    (search (rules, the_lemmas), inside (codes "subterm") [] (children.Element (term_element c.arg-item.result) ∷ []) [] c.loop-arg.into c.begin.new.self _ may c.in_ok-begin.ensures)

pub add_term-add_attributed-requires-in-UserOp : goal.add_term-add_attributed-requires-in-UserOp
add_term-add_attributed-requires-in-UserOp t c =
    subst (λ n. MayTakeElement (attributed (codes "useroperator") (codes "declaration") n) c.args.into.now) (sym c.as_str-in-UserOp.ensures)
    (subst (λ e. MayTakeElement e c.args.into.now) (user_element c.args.term.now c.in-UserOp.name c.in-UserOp.is) c.requires)

pub add_term-returns-in-UserOp : goal.add_term-returns-in-UserOp
add_term-returns-in-UserOp t c =
    let same = ap (attributed (codes "useroperator") (codes "declaration")) c.as_str-in-UserOp.ensures ∙ sym (user_element c.args.term.now c.in-UserOp.name c.in-UserOp.is) in
    subst (λ e. OnOk c.add_attributed-in-UserOp.result (c.add_attributed-in-UserOp.new.into ≡ at_innermost (with_kid (children.Element e)) c.args.into.now)) same c.add_attributed-in-UserOp.ensures

pub add_term-begin_with-requires-clause-room : goal.add_term-begin_with-requires-clause-room
add_term-begin_with-requires-clause-room t c =
    let may = subst (λ e. MayTakeElement e c.args.into.now) (partition_element c.args.term.now c.in-PartitionOf.partition c.in-PartitionOf.arg c.in-PartitionOf.is) c.requires in
    (entry _ _ _ _ _ may).room

pub add_term-begin_with-requires-clause-value : goal.add_term-begin_with-requires-clause-value
add_term-begin_with-requires-clause-value t c =
    let may = subst (λ e. MayTakeElement e c.args.into.now) (partition_element c.args.term.now c.in-PartitionOf.partition c.in-PartitionOf.arg c.in-PartitionOf.is) c.requires in
    rw c.as_str-in-PartitionOf.ensures (first_of _ _ _ _ _ _ _ may).value

pub add_term-begin-requires-clause-depth : goal.add_term-begin-requires-clause-depth
add_term-begin-requires-clause-depth t c =
    let may = subst (λ e. MayTakeElement e c.args.into.now) (partition_element c.args.term.now c.in-PartitionOf.partition c.in-PartitionOf.arg c.in-PartitionOf.is) c.requires in
    (entry _ _ _ _ _ (inside _ _ _ _ _ _ _ may c.in_ok-begin_with-in-PartitionOf.ensures)).room.room

pub add_term-add_term-requires : goal.add_term-add_term-requires
add_term-add_term-requires t c =
    let may = subst (λ e. MayTakeElement e c.args.into.now) (partition_element c.args.term.now c.in-PartitionOf.partition c.in-PartitionOf.arg c.in-PartitionOf.is) c.requires in
    let within = inside _ _ _ _ _ _ _ may c.in_ok-begin_with-in-PartitionOf.ensures in
    (search (rules, the_lemmas), rw c.get.ensures (inside _ _ _ _ _ _ _ within c.in_ok-begin-in-PartitionOf.ensures))

pub add_term-returns-in_ok-add_term-in-PartitionOf : goal.add_term-returns-in_ok-add_term-in-PartitionOf
add_term-returns-in_ok-add_term-in-PartitionOf t c =
    let is = partition_element c.args.term.now c.in-PartitionOf.partition c.in-PartitionOf.arg c.in-PartitionOf.is in
    let may = subst (λ e. MayTakeElement e c.args.into.now) is c.requires in
    let within = inside _ _ _ _ _ _ _ may c.in_ok-begin_with-in-PartitionOf.ensures in
    let argument = added (codes "subterm") [] (children.Element (term_element c.get.result.now) ∷ []) _ _ _ _ within.is_open c.in_ok-begin-in-PartitionOf.ensures c.in_ok-add_term-in-PartitionOf.ensures c.end.ensures in
    let whole = added (codes "partitionelementof") (attribute (codes "refpartition") c.as_str-in-PartitionOf.result.now ∷ []) (subterm (term_element c.get.result.now) ∷ []) _ _ _ _ c.requires.is_open
    c.in_ok-begin_with-in-PartitionOf.ensures argument c.end-in-PartitionOf.ensures in
    let same = ap (λ p. made (codes "partitionelementof") (attribute (codes "refpartition") p ∷ []) (subterm (term_element c.get.result.now) ∷ [])) c.as_str-in-PartitionOf.ensures
    ∙ ap (λ a. made (codes "partitionelementof") (attribute (codes "refpartition") c.in-PartitionOf.partition ∷ []) (subterm (term_element a) ∷ [])) c.get.ensures ∙ sym is in
    subst (λ e. c.end-in-PartitionOf.new.self ≡ at_innermost (with_kid (children.Element e)) c.args.into.now) same whole

pub add_term-begin-requires-in-Apply-clause-name : goal.add_term-begin-requires-in-Apply-clause-name
add_term-begin-requires-in-Apply-clause-name t c =
    let may = subst (λ e. MayTakeElement e c.args.into.now) (apply_element c.args.term.now c.in-Apply.op c.in-Apply.args c.in-Apply.is) c.requires in
    rw c.op_name.ensures (entry _ _ _ _ _ may).name

pub add_term-begin-requires-in-Apply-clause-depth : goal.add_term-begin-requires-in-Apply-clause-depth
add_term-begin-requires-in-Apply-clause-depth t c =
    let may = subst (λ e. MayTakeElement e c.args.into.now) (apply_element c.args.term.now c.in-Apply.op c.in-Apply.args c.in-Apply.is) c.requires in
    (entry _ _ _ _ _ may).room.room

pub add_term-add_subterms-requires : goal.add_term-add_subterms-requires
add_term-add_subterms-requires t c =
    let may = subst (λ e. MayTakeElement e c.args.into.now) (apply_element c.args.term.now c.in-Apply.op c.in-Apply.args c.in-Apply.is) c.requires in
    (search (rules, the_lemmas), rw c.as_slice.ensures (inside _ _ _ _ _ _ _ may c.in_ok-begin-in-Apply.ensures))
