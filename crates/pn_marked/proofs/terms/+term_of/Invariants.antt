use Rattle.std.proofs.Common.{◌≡◌, ◌++◌, drop, map, take}
use Rattle.pn_marked.specs.Ground.{ground_term, terms_of_parts, writing_of}
use Rattle.pn_marked.proofs.terms.+term_of.Given as goal

abbrev pub invariant-item_terms-loop-value : goal.invariant-item_terms-loop-value
invariant-item_terms-loop-value l = l.terms ≡ map (ground_term l.decls l.item) (take l.value-index l.values)

abbrev pub invariant-part_terms-loop-i : goal.invariant-part_terms-loop-i
invariant-part_terms-loop-i l = l.terms ++ terms_of_parts (map (writing_of l.decls) (drop l.i l.parts)) (drop l.i l.values) ≡ terms_of_parts (map (writing_of l.decls) l.parts) l.values
