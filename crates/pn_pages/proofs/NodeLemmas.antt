-- On which side of the arcs what an id names stands.
use Rattle.std.proofs.Common.{◌≡◌, ℕ, ◌≤◌, Bool, true, false, cond, List, Option, Some, None, refl, sym, ap, ◌∙◌, arith, nat_lt}
use Rattle.pn_net.specs.Ids.{IdHolder, NamesHolder, Role, holders_of}
use Rattle.pn_net.specs.Ids as roles
use Rattle.pn_net.specs.Links.{IsOnSide, NamesNoNode, Side, side_of}
use Rattle.pn_objects.specs.declared.net.Net.{Net}
use Rattle.pn_pages.specs.declared.names.Node.{Node}
use Rattle.pn_pages.specs.declared.names.Node.TheVariants as nodes
use Rattle.pn_pages.specs.declared.numbered.Objects.{Objects}
use Rattle.pn_pages.specs.Linking.{AreApart, node_side, side_by}
use Rattle.pn_pages.specs.Naming.{IsFirstHolder, FindsNode, Shows, late, rank}
use Rattle.pn_pages.proofs.NamingLemmas.{late_most}

late_node : (r : Role) (side : Side) → side_of r ≡ Some side → late r ≡ 0
late_node roles.place side is = refl
late_node roles.transition side is = refl
late_node (roles.place_reference refers) side is = refl
late_node (roles.transition_reference refers) side is = refl
late_node roles.other side is = cc

-- the side of what a node shows
side_shown : (o : Objects) (node : Node) (h : IdHolder) → Shows o node h → side_of h.role ≡ node_side o.place_refs (Some node)
side_shown o (nodes.Place i) h shown = ap side_of shown.3
side_shown o (nodes.Transition i) h shown = ap side_of shown.3
side_shown o (nodes.Reference k) h shown = ap side_of shown.3 ∙ step (nat_lt k o.place_refs) shown.0.refers
  where
    step : (b : Bool) (refers : List ℕ) → side_of (cond b (roles.place_reference refers) (roles.transition_reference refers)) ≡ Some (side_by b)
    step true refers = refl
    step false refers = refl
side_shown o nodes.Other h shown = ap side_of shown

module _ (n : Net) (o : Objects) (id : List ℕ) where
  pub names_first : (h : IdHolder) → IsFirstHolder (holders_of n) id h → NamesHolder n id h
  names_first h first = record {
    stands = first.stands;
    has_id = first.has_id;
    is_first = λ x has same. omega (arith, first.is_first x has same, late_most h.role, late_most x.role);
  }

  -- where no two elements have the same id at the same offset, the id names one alone
  pub only_named : AreApart n → (x y : IdHolder) → NamesHolder n id x → NamesHolder n id y → x ≡ y
  only_named apart x y one another = apart x y one.stands another.stands (one.has_id ∙ sym another.has_id) (omega (arith, one.is_first y another.stands another.has_id, another.is_first x one.stands one.has_id))

  -- the side that is found
  pub on_side : (node : Option Node) (side : Side) → FindsNode o (holders_of n) id node → node_side o.place_refs node ≡ Some side → IsOnSide n id side
  on_side None side found is = cc
  on_side (Some node) side found is = (found.0, names_first found.0 found.1, side_shown o node found.0 found.2 ∙ is)

  -- none is found
  pub no_node : (node : Option Node) → FindsNode o (holders_of n) id node → node_side o.place_refs node ≡ None → NamesNoNode n id
  no_node None found is = λ side on. found on.0 on.1.stands on.1.has_id
  no_node (Some node) found is = λ side on.
      let first = found.1 in
      let none : side_of found.0.role ≡ None = side_shown o node found.0 found.2 ∙ is in
      let lower : on.0.at ≤ found.0.at = on.1.is_first found.0 first.stands first.has_id in
      let behind : rank found.0 ≤ rank on.0 = first.is_first on.0 on.1.stands on.1.has_id in
      omega (arith, lower, behind, late_node on.0.role side on.2, late_none found.0.role none)
    where
      late_none : (r : Role) → side_of r ≡ None → late r ≡ 1
      late_none roles.place e = cc
      late_none roles.transition e = cc
      late_none (roles.place_reference refers) e = cc
      late_none (roles.transition_reference refers) e = cc
      late_none roles.other e = refl

  -- and no other is, where no two elements have the same id at the same offset
  pub only_side : AreApart n → (node : Option Node) (side : Side) → FindsNode o (holders_of n) id node → IsOnSide n id side → node_side o.place_refs node ≡ Some side
  only_side apart None side found on = absurd (found on.0 on.1.stands on.1.has_id)
  only_side apart (Some node) side found on =
      let mine = names_first found.0 found.1 in
      let at : on.0.at ≡ found.0.at = omega (arith, on.1.is_first found.0 mine.stands mine.has_id, mine.is_first on.0 on.1.stands on.1.has_id) in
      let same : on.0 ≡ found.0 = apart on.0 found.0 on.1.stands mine.stands (on.1.has_id ∙ sym mine.has_id) at in
      sym (side_shown o node found.0 found.2) ∙ ap (λ (h : IdHolder). side_of h.role) (sym same) ∙ on.2
