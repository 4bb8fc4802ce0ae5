use Rattle.std.proofs.Common.{rules, subst, ap, map, ◌<◌, ◌∙◌}
use Rattle.pn_carriers.specs.Members.{IsMember, is_member}
use Rattle.pn_facts.proofs.Lists.{list_all_get}
use Rattle.pn_names.specs.Names.{widths_of}
use Rattle.pn_resolve.specs.Naming.{NamesDeclared, names_declared}
use Rattle.pn_sorts.proofs.MemberLemmas.{enumeration_member, partition_member}
use Rattle.pn_values.specs.declared.sort.Sort.TheVariants as sorts
use Rattle.pn_values.specs.declared.sort.Sort.TheViews.{the_lemmas}
use Rattle.pn_marked.specs.Ground.{terms_of_parts, writing_of}
use Rattle.pn_eval.proofs.MemberLemmas.{as_many}
use Rattle.pn_marked.proofs.WritingLemmas.{member_there, next_part, product_names, tuple_passes}
use Rattle.pn_marked.proofs.terms.+term_of.Goals as goal

pub term_of-constant-requires : goal.term_of-constant-requires
term_of-constant-requires t c =
    let place = c.in-Enumeration.place in
    (sorts.Enumeration place, enumeration_member c.args.decls.now place c.args.value.now (subst (NamesDeclared c.args.decls.now) c.in-Enumeration.is c.requires.declared) (subst (IsMember (widths_of c.args.decls.now) c.args.value.now) c.in-Enumeration.is c.requires.member))

pub term_of-constant-requires-in-Partition : goal.term_of-constant-requires-in-Partition
term_of-constant-requires-in-Partition t c =
    let place = c.in-Partition.place in
    (sorts.Partition place, partition_member c.args.decls.now place c.args.value.now (subst (NamesDeclared c.args.decls.now) c.in-Partition.is c.requires.declared) (subst (IsMember (widths_of c.args.decls.now) c.args.value.now) c.in-Partition.is c.requires.member))

pub term_of-tuple-requires : goal.term_of-tuple-requires
term_of-tuple-requires t c = (
  search (rules, the_lemmas),
  (
    product_names c.args.decls.now c.args.sort.now c.in-Product.parts c.as_slice.result.now c.in-Product.is c.as_slice.ensures c.requires.declared,
    tuple_passes (widths_of c.args.decls.now) c.args.sort.now c.in-Product.parts c.as_slice.result.now c.args.value.now c.in-Product.is c.as_slice.ensures c.requires.member,
  ),
)

pub part_terms-bounds-values-i : goal.part_terms-bounds-values-i
part_terms-bounds-values-i t c = let same = as_many (is_member (widths_of c.args.decls.now)) c.args.parts.now c.args.values.now c.requires.members in subst (λ n. c.loop-i.i < n) same c.loop-i-test.true

pub part_terms-term_of-requires : goal.part_terms-term_of-requires
part_terms-term_of-requires t c = (
  search (rules, the_lemmas),
  (
    ap (names_declared c.args.decls.now) c.index-parts-i.is ∙ list_all_get (names_declared c.args.decls.now) c.args.parts.now c.loop-i.i c.index-parts-i.result c.loop-i-test.true c.requires.declared,
    member_there (is_member (widths_of c.args.decls.now)) c.args.parts.now c.args.values.now c.loop-i.i c.index-parts-i.result c.index-values-i.result c.requires.members c.loop-i-test.true c.index-parts-i.is c.index-values-i.is,
  ),
)

pub part_terms-loop-i-preserved : goal.part_terms-loop-i-preserved
part_terms-loop-i-preserved t c =
    let same = as_many (is_member (widths_of c.args.decls.now)) c.args.parts.now c.args.values.now c.requires.members in
    next_part c.args.decls.now c.args.parts.now c.args.values.now c.loop-i.i c.index-parts-i.result c.index-values-i.result (terms_of_parts (map (writing_of c.args.decls.now) c.args.parts.now) c.args.values.now) c.loop-i.terms c.push.new.self c.in_ok-term_of.field-0
    c.loop-i-test.true c.index-parts-i.is (subst (λ n. c.loop-i.i < n) same c.loop-i-test.true) c.index-values-i.is c.in_ok-term_of.ensures c.in_ok-push.ensures.ok c.loop-i.invariant
