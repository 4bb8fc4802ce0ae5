-- Which fault an arc or a reference has, by the sides of its ends.
use mathlib.Core.Bool.{beq}
use Rattle.std.proofs.Common.{◌≡◌, ℕ, Bool, true, false, cond, not, Option, Some, None, refl, sym, ap, ◌∙◌, subst}
use Rattle.std.specs.Option.{option_map}
use Rattle.pn_faults.specs.declared.fault.Fault.{Fault}
use Rattle.pn_faults.specs.declared.reason.Reason.TheVariants as reasons
use Rattle.pn_faults.specs.Least.{lower}
use Rattle.pn_faults.specs.Order.{fault_at}
use Rattle.pn_net.specs.Ids.{holders_of}
use Rattle.pn_net.specs.Links.{IsOnSide, NamesNoNode, Side, places, transitions}
use Rattle.pn_objects.specs.declared.net.Net.{Net}
use Rattle.pn_objects.specs.declared.object.Arc.{Arc}
use Rattle.pn_objects.specs.declared.object.Reference.{Reference}
use Rattle.pn_pages.specs.declared.names.Node.{Node}
use Rattle.pn_pages.specs.declared.numbered.Objects.{Objects}
use Rattle.pn_pages.specs.Linking.{AreApart, IsArcFault, IsEndless, IsEndlessFault, IsTargetFault, AddsFaults, TellsArc, TellsEndless, is_of_places, node_side, side_by}
use Rattle.pn_pages.specs.Linking as faults
use Rattle.pn_pages.specs.Naming.{FindsNode}
use Rattle.pn_pages.proofs.NodeLemmas.{no_node, on_side, only_side}
use Rattle.pn_pages.proofs.TellingLemmas.{tells_nothing, tells_one}

said_side : (s : Option Side) (b : Bool) → Some b ≡ option_map is_of_places s → s ≡ Some (side_by b)
said_side None b e = cc
said_side (Some places) true e = refl
said_side (Some places) false e = cc
said_side (Some transitions) true e = cc
said_side (Some transitions) false e = refl

no_side : (s : Option Side) → None ≡ option_map is_of_places s → s ≡ None
no_side None e = refl
no_side (Some side) e = cc

same_side : (side another : Side) → Some side ≡ Some another → side ≡ another
same_side side another e = cc

apart_sides : (x y : Bool) → side_by x ≡ side_by y → x ≡ y
apart_sides true true e = refl
apart_sides true false e = cc
apart_sides false true e = cc
apart_sides false false e = refl

module _ (n : Net) (o : Objects) (count : ℕ) (counts : o.place_refs ≡ count) (a : Arc) (source target : Option Node) (from : FindsNode o (holders_of n) a.source source) (to : FindsNode o (holders_of n) a.target target) where
  sides : (node : Option Node) (s : Option Side) → node_side count node ≡ s → node_side o.place_refs node ≡ s
  sides node s e = ap (λ k. node_side k node) counts ∙ e

  pub unknown_source : (old new : Option Fault) → None ≡ option_map is_of_places (node_side count source) → new ≡ lower old (Some (fault_at reasons.UnknownEnd a.at a.source)) → TellsArc n a old new
  unknown_source old new none is =
      let nowhere : NamesNoNode n a.source = no_node n o a.source source from (sides source None (no_side (node_side count source) none)) in
      let fault = fault_at reasons.UnknownEnd a.at a.source in
      tells_one n (IsArcFault n a) fault old new (faults.source fault nowhere refl) (λ g has. only nowhere g has) is
    where
      only : NamesNoNode n a.source → (g : Fault) → IsArcFault n a g → g ≡ fault_at reasons.UnknownEnd a.at a.source
      only nowhere g (faults.source h none is) = is
      only nowhere g (faults.target h side on none is) = absurd (nowhere side on)
      only nowhere g (faults.wrong h side on other is) = absurd (nowhere side on)

  pub unknown_target : (old new : Option Fault) (b : Bool) → Some b ≡ option_map is_of_places (node_side count source) → None ≡ option_map is_of_places (node_side count target)
      → new ≡ lower old (Some (fault_at reasons.UnknownEnd a.at a.target)) → TellsArc n a old new
  unknown_target old new b known none is =
      let on : IsOnSide n a.source (side_by b) = on_side n o a.source source (side_by b) from (sides source (Some (side_by b)) (said_side (node_side count source) b known)) in
      let nowhere : NamesNoNode n a.target = no_node n o a.target target to (sides target None (no_side (node_side count target) none)) in
      let fault = fault_at reasons.UnknownEnd a.at a.target in
      tells_one n (IsArcFault n a) fault old new (faults.target fault (side_by b) on nowhere refl) (λ g has. only on nowhere g has) is
    where
      only : {side : Side} → IsOnSide n a.source side → NamesNoNode n a.target → (g : Fault) → IsArcFault n a g → g ≡ fault_at reasons.UnknownEnd a.at a.target
      only {side} on nowhere g (faults.source h none is) = absurd (none side on)
      only {side} on nowhere g (faults.target h other at none is) = is
      only {side} on nowhere g (faults.wrong h other at to is) = absurd (nowhere other to)

  pub wrong_end : (old new : Option Fault) (b : Bool) → Some b ≡ option_map is_of_places (node_side count source) → Some b ≡ option_map is_of_places (node_side count target)
      → new ≡ lower old (Some (fault_at reasons.WrongEnd a.at a.id)) → TellsArc n a old new
  wrong_end old new b left right is =
      let on : IsOnSide n a.source (side_by b) = on_side n o a.source source (side_by b) from (sides source (Some (side_by b)) (said_side (node_side count source) b left)) in
      let at : IsOnSide n a.target (side_by b) = on_side n o a.target target (side_by b) to (sides target (Some (side_by b)) (said_side (node_side count target) b right)) in
      let fault = fault_at reasons.WrongEnd a.at a.id in
      tells_one n (IsArcFault n a) fault old new (faults.wrong fault (side_by b) on at refl) (λ g has. only on at g has) is
    where
      only : {side : Side} → IsOnSide n a.source side → IsOnSide n a.target side → (g : Fault) → IsArcFault n a g → g ≡ fault_at reasons.WrongEnd a.at a.id
      only {side} on at g (faults.source h none is) = absurd (none side on)
      only {side} on at g (faults.target h other from none is) = absurd (none side at)
      only {side} on at g (faults.wrong h other from to is) = is

  pub right_ends : (old : Option Fault) (b c : Bool) → (b ≡ c → ⊥) → Some b ≡ option_map is_of_places (node_side count source) → Some c ≡ option_map is_of_places (node_side count target) → TellsArc n a old old
  right_ends old b c differ left right = tells_nothing n (IsArcFault n a) old (λ apart f has. none apart f has)
    where
      source_is : node_side o.place_refs source ≡ Some (side_by b)
      source_is = sides source (Some (side_by b)) (said_side (node_side count source) b left)

      target_is : node_side o.place_refs target ≡ Some (side_by c)
      target_is = sides target (Some (side_by c)) (said_side (node_side count target) c right)

      none : AreApart n → (f : Fault) → IsArcFault n a f → ⊥
      none apart f (faults.source h nowhere is) = nowhere (side_by b) (on_side n o a.source source (side_by b) from source_is)
      none apart f (faults.target h side on nowhere is) = nowhere (side_by c) (on_side n o a.target target (side_by c) to target_is)
      none apart f (faults.wrong h side on at is) =
          let first = same_side side (side_by b) (sym (only_side n o a.source apart source side from on) ∙ source_is) in
          let second = same_side side (side_by c) (sym (only_side n o a.target apart target side to at) ∙ target_is) in
          differ (apart_sides b c (sym first ∙ second))

-- ---- references

module _ (n : Net) (o : Objects) (count : ℕ) (counts : o.place_refs ≡ count) (own : Bool) (r : Reference) (target : Option Node) (to : FindsNode o (holders_of n) r.refers target) where
  at_side : (s : Option Side) → node_side count target ≡ s → node_side o.place_refs target ≡ s
  at_side s e = ap (λ k. node_side k target) counts ∙ e

  pub unknown_target_of_reference : (old new : Option Fault) → None ≡ option_map is_of_places (node_side count target) → new ≡ lower old (Some (fault_at reasons.UnknownEnd r.at r.refers)) → AddsFaults n (IsTargetFault n (side_by own) r) old new
  unknown_target_of_reference old new none is =
      let nowhere : NamesNoNode n r.refers = no_node n o r.refers target to (at_side None (no_side (node_side count target) none)) in
      let fault = fault_at reasons.UnknownEnd r.at r.refers in
      tells_one n (IsTargetFault n (side_by own) r) fault old new (faults.unknown fault nowhere refl) (λ g has. only nowhere g has) is
    where
      only : NamesNoNode n r.refers → (g : Fault) → IsTargetFault n (side_by own) r g → g ≡ fault_at reasons.UnknownEnd r.at r.refers
      only nowhere g (faults.unknown h none is) = is
      only nowhere g (faults.wrong h other on differ is) = absurd (nowhere other on)

  pub wrong_target : (old new : Option Fault) (b : Bool) → (b ≡ own → ⊥) → Some b ≡ option_map is_of_places (node_side count target) → new ≡ lower old (Some (fault_at reasons.WrongEnd r.at r.id)) → AddsFaults n (IsTargetFault n (side_by own) r) old new
  wrong_target old new b differ there is =
      let on : IsOnSide n r.refers (side_by b) = on_side n o r.refers target (side_by b) to (at_side (Some (side_by b)) (said_side (node_side count target) b there)) in
      let fault = fault_at reasons.WrongEnd r.at r.id in
      tells_one n (IsTargetFault n (side_by own) r) fault old new (faults.wrong fault (side_by b) on (λ same. differ (apart_sides b own same)) refl) (λ g has. only on g has) is
    where
      only : {side : Side} → IsOnSide n r.refers side → (g : Fault) → IsTargetFault n (side_by own) r g → g ≡ fault_at reasons.WrongEnd r.at r.id
      only {side} on g (faults.unknown h none is) = absurd (none side on)
      only {side} on g (faults.wrong h other at differ is) = is

  pub right_target : (old : Option Fault) (b : Bool) → b ≡ own → Some b ≡ option_map is_of_places (node_side count target) → AddsFaults n (IsTargetFault n (side_by own) r) old old
  right_target old b same there = tells_nothing n (IsTargetFault n (side_by own) r) old (λ apart f has. none apart f has)
    where
      is : node_side o.place_refs target ≡ Some (side_by b)
      is = at_side (Some (side_by b)) (said_side (node_side count target) b there)

      none : AreApart n → (f : Fault) → IsTargetFault n (side_by own) r f → ⊥
      none apart f (faults.unknown h nowhere e) = nowhere (side_by b) (on_side n o r.refers target (side_by b) to is)
      none apart f (faults.wrong h side on differ e) = differ (same_side side (side_by b) (sym (only_side n o r.refers apart target side to on) ∙ is) ∙ ap side_by same)

-- following it never ends, or does
pub endless_told : (n : Net) (r : Reference) (b : Bool) (old new : Option Fault) → TellsEndless n r b → new ≡ cond b (lower old (Some (fault_at reasons.ReferenceCycle r.at r.id))) old → AddsFaults n (IsEndlessFault n r) old new
endless_told n r true old new tells is =
    let fault = fault_at reasons.ReferenceCycle r.at r.id in
    tells_one n (IsEndlessFault n r) fault old new (tells.leads refl, refl) (λ g has. has.1) is
endless_told n r false old new tells is = subst (AddsFaults n (IsEndlessFault n r) old) (sym is) (tells_nothing n (IsEndlessFault n r) old (λ apart f has. tells.ends apart refl has.0))

pub equal_by : (b c : Bool) → beq b c ≡ true → b ≡ c
equal_by true true e = refl
equal_by true false e = cc
equal_by false true e = cc
equal_by false false e = refl

pub differ_by : (b c : Bool) → beq b c ≡ false → b ≡ c → ⊥
differ_by true true e same = cc
differ_by true false e same = cc
differ_by false true e same = cc
differ_by false false e same = cc

pub not_same : (b c : Bool) → not (beq b c) ≡ true → b ≡ c → ⊥
not_same true true e same = cc
not_same true false e same = cc
not_same false true e same = cc
not_same false false e same = cc

pub not_apart : (b c : Bool) → not (beq b c) ≡ false → b ≡ c
not_apart true true e = refl
not_apart true false e = cc
not_apart false true e = cc
not_apart false false e = refl
