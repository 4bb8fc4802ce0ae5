-- The ids of the declarations of a net that can be written are texts.
use Rattle.std.proofs.Common.{◌≡◌, ◌++◌, ◌&&◌, ℕ, suc, true, List, [], ◌∷◌, map, codes, Option, None, Some, refl, sym, ap, subst, ◌∙◌}
use Rattle.std.specs.List.{AllByRecursion, Contains, list_all, slice_get}
use Rattle.std.specs.Option.{option_and_then, option_map, unwrap_or}
use Rattle.std.specs.Prelude.{is_none}
use Rattle.pn_facts.proofs.Contained.{contains_at}
use Rattle.pn_facts.proofs.Each.{each, one_of}
use Rattle.pn_facts.proofs.Truths.{and_left, and_right}
use Rattle.pn_marked.specs.Ground.{constant_id, declared_id}
use Rattle.pn_names.specs.Names.{constant_ids, id_of}
use Rattle.pn_net.specs.Flattening.{in_one, net_of_flat}
use Rattle.pn_net.specs.declared.flat.Flat.{Flat}
use Rattle.pn_objects.specs.declared.label.Label.{Label}
use Rattle.pn_spelling.specs.Writable.{IsWritable}
use Rattle.pn_spelling.specs.WriteDeclarations.{body_element, constant_element, declaration_element, declarations_element, name_attrs, named_attrs, part_element}
use Rattle.pn_spelling.specs.WriteNets.{declaration_label, head_kids, net_element, page_element, tree_of_net}
use Rattle.pn_spelling.specs.WriteSorts.{sort_element}
use Rattle.pn_spelling.specs.Writing.{all_kids, attribute, enclosing, made}
use Rattle.pn_syntax.specs.declared.declaration.Constant.{Constant}
use Rattle.pn_syntax.specs.declared.declaration.Declaration.{Declaration}
use Rattle.pn_syntax.specs.declared.declaration.Declaration.TheVariants as declarations
use Rattle.pn_syntax.specs.declared.declaration.PartElement.{PartElement}
use Rattle.pn_syntax.specs.declared.declaration.SortBody.TheVariants as bodies
use Rattle.pn_text.specs.Characters.{is_name, is_text}
use Rattle.pn_tree.proofs.TreeLemmas.{Parts, parts_of}
use Rattle.pn_tree.specs.Elements.{are_attrs, attr_value, is_element, is_kid}
use Rattle.pn_tree.specs.declared.element.Attr.{Attr}
use Rattle.pn_tree.specs.declared.element.Child.{Child}
use Rattle.pn_tree.specs.declared.element.Child.TheVariants as children
use Rattle.pn_tree.specs.declared.element.Element.{Element}
use Rattle.pn_documents.proofs.RemarkedLemmas.{own_page}
use Rattle.pn_documents.proofs.RoomLemmas.{Kids, all_split, fit_each, of_mapped}
use Rattle.pn_documents.specs.Fit.{HasTextIds}

-- an element of a tree with an id
id_right : (n : ℕ) (tag id : List ℕ) (name : Option (List ℕ)) (kids : List Child) → is_element (suc n) (made tag (named_attrs id name) kids) ≡ true → is_text id ≡ true
id_right n tag id name kids fits =
    let rest = is_none (attr_value (codes "id") (name_attrs name)) && are_attrs (name_attrs name) in
    and_left (is_text id) rest (and_right (is_name (codes "id")) (is_text id && rest) (parts_of n (made tag (named_attrs id name) kids) fits).attrs)

-- its elements
each_there : {X : Type 0} (n : ℕ) (spell : X → Element) (xs : List X) → Kids n (all_kids spell xs) → AllByRecursion (λ x. is_element n (spell x) ≡ true) xs
each_there n spell xs fits = of_mapped spell (λ e. is_element n e ≡ true) xs (fit_each n (map spell xs) fits)

abbrev IdsAreTexts : List (List ℕ) → Type 0
IdsAreTexts = AllByRecursion (λ id. is_text id ≡ true)

mapped_all : {X : Type 0} (id : X → List ℕ) (xs : List X) → AllByRecursion (λ x. is_text (id x) ≡ true) xs → IdsAreTexts (map id xs)
mapped_all id [] all = tt
mapped_all id (x ∷ xs) all = (all.0, mapped_all id xs all.1)

-- the constants of an enumeration
constants_right : (n : ℕ) (tag : List ℕ) (cs : List Constant) → is_element (suc (suc n)) (made tag [] (all_kids constant_element cs)) ≡ true → IdsAreTexts (map (λ c. c.id) cs)
constants_right n tag cs fits =
    mapped_all (λ c. c.id) cs
    (each (λ c. is_element (suc n) (constant_element c) ≡ true) (λ c. is_text c.id ≡ true) (λ c is. id_right n (codes "feconstant") c.id c.name [] is) cs
    (each_there (suc n) constant_element cs (parts_of (suc n) (made tag [] (all_kids constant_element cs)) fits).kids))

-- a declaration, and its constants or the elements of its partition
record HasTexts (d : Declaration) : Type 0 where
  id : is_text (id_of d) ≡ true
  constants : IdsAreTexts (constant_ids d)

declaration_right : (n : ℕ) (d : Declaration) → is_element (suc (suc (suc n))) (declaration_element d) ≡ true → HasTexts d
declaration_right n (declarations.Named id name (bodies.Plain e) at) fits = record { id = id_right (suc (suc n)) (codes "namedsort") id name (children.Element (sort_element e) ∷ []) fits; constants = tt }
declaration_right n (declarations.Named id name (bodies.Finite cs) at) fits =
    let body = made (codes "finiteenumeration") [] (all_kids constant_element cs) in
    record {
      id = id_right (suc (suc n)) (codes "namedsort") id name (children.Element body ∷ []) fits;
      constants = constants_right n (codes "finiteenumeration") cs (fit_each (suc (suc n)) (body ∷ []) (parts_of (suc (suc n)) (made (codes "namedsort") (named_attrs id name) (children.Element body ∷ [])) fits).kids).0;
    }
declaration_right n (declarations.Named id name (bodies.Cyclic cs) at) fits =
    let body = made (codes "cyclicenumeration") [] (all_kids constant_element cs) in
    record {
      id = id_right (suc (suc n)) (codes "namedsort") id name (children.Element body ∷ []) fits;
      constants = constants_right n (codes "cyclicenumeration") cs (fit_each (suc (suc n)) (body ∷ []) (parts_of (suc (suc n)) (made (codes "namedsort") (named_attrs id name) (children.Element body ∷ [])) fits).kids).0;
    }
declaration_right n (declarations.Variable id name sort at) fits = record { id = id_right (suc (suc n)) (codes "variabledecl") id name (children.Element (sort_element sort) ∷ []) fits; constants = tt }
declaration_right n (declarations.Partition id name sort ps at) fits =
    let kids = children.Element (sort_element sort) ∷ all_kids part_element ps in
    record {
      id = id_right (suc (suc n)) (codes "partition") id name kids fits;
      constants = mapped_all (λ p. p.id) ps
          (each (λ p. is_element (suc (suc n)) (part_element p) ≡ true) (λ p. is_text p.id ≡ true) (λ p is. id_right (suc n) (codes "partitionelement") p.id p.name _ is) ps
          (each_there (suc (suc n)) part_element ps (and_right (is_kid (is_element (suc (suc n))) (children.Element (sort_element sort))) (list_all (is_kid (is_element (suc (suc n)))) (all_kids part_element ps)) (parts_of (suc (suc n)) (made (codes "partition") (named_attrs id name) kids) fits).kids)));
    }

-- those of a net
module _ (f : Flat) (w : IsWritable (net_of_flat f)) where
  label_kids : Kids 254 (all_kids declaration_label (in_one f.declarations))
  label_kids =
      let root = parts_of 255 (tree_of_net (net_of_flat f)) w.tree in
      let inside = parts_of 254 (net_element (net_of_flat f)) (fit_each 255 (net_element (net_of_flat f) ∷ []) root.kids).0 in
      let labels = all_kids declaration_label (in_one f.declarations) in
      let a = all_split (is_kid (is_element 254)) (head_kids f.head) (labels ++ all_kids page_element (own_page f ∷ [])) inside.kids in
      (all_split (is_kid (is_element 254)) labels (all_kids page_element (own_page f ∷ [])) a.1).0

  all_right : (items : List Declaration) → Kids 254 (all_kids declaration_label (in_one items)) → AllByRecursion HasTexts items
  all_right [] kids = tt
  all_right (d ∷ ds) kids =
      let label : Label (List Declaration) = record { value = d ∷ ds; text = None; opaque = []; at = 0 } in
      let at_label = parts_of 253 (declaration_label label) (fit_each 254 (declaration_label label ∷ []) kids).0 in
      let structure = enclosing (codes "structure") (declarations_element (d ∷ ds)) in
      let at_structure = parts_of 252 structure (fit_each 253 (structure ∷ []) at_label.kids).0 in
      let at_declarations = parts_of 251 (declarations_element (d ∷ ds)) (fit_each 252 (declarations_element (d ∷ ds) ∷ []) at_structure.kids).0 in
      each (λ x. is_element 251 (declaration_element x) ≡ true) HasTexts (λ x is. declaration_right 248 x is) (d ∷ ds) (each_there 251 declaration_element (d ∷ ds) at_declarations.kids)

  pub text_ids : HasTextIds f.declarations
  text_ids = record {
    declared = λ place. declared_at (slice_get f.declarations place) (λ d at. right place d at);
    constants = λ place index. constant_at index (slice_get f.declarations place) (λ d at. right place d at);
  }
    where
      right : (place : ℕ) (d : Declaration) → slice_get f.declarations place ≡ Some d → HasTexts d
      right place d at = one_of HasTexts f.declarations d (all_right f.declarations label_kids) (contains_at f.declarations place d at)

      declared_at : (o : Option Declaration) → ((d : Declaration) → o ≡ Some d → HasTexts d) → is_text (unwrap_or (option_map id_of o) []) ≡ true
      declared_at None has = refl
      declared_at (Some d) has = (has d refl).id

      id_at : (ids : List (List ℕ)) → IdsAreTexts ids → (o : Option (List ℕ)) → ((id : List ℕ) → o ≡ Some id → Contains ids id) → is_text (unwrap_or o []) ≡ true
      id_at ids all None has = refl
      id_at ids all (Some id) has = one_of (λ x. is_text x ≡ true) ids id all (has id refl)

      constant_at : (index : ℕ) (o : Option Declaration) → ((d : Declaration) → o ≡ Some d → HasTexts d) → is_text (unwrap_or (option_and_then (λ d. slice_get (constant_ids d) index) o) []) ≡ true
      constant_at index None has = refl
      constant_at index (Some d) has = id_at (constant_ids d) (has d refl).constants (slice_get (constant_ids d) index) (λ id at. contains_at (constant_ids d) index id at)
