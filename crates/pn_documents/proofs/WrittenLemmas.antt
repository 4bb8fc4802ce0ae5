-- What is written of a net is a document of the same net as its flat net.
use Rattle.std.proofs.Common.{refl, ◌∙◌, subst}
use Rattle.pn_checks.proofs.KeptLemmas.{accepted_links, accepted_sorts, sorts_kept, typing_kept, values_kept}
use Rattle.pn_checks.specs.Linked.{IsLinked}
use Rattle.pn_checks.specs.Verdicts.{IsAccepted, IsFaultOf, in_tree, no_value}
use Rattle.pn_facts.proofs.Contained.{contains_nil}
use Rattle.pn_flat_laws.specs.AlikeNets.{AreAlikeNets}
use Rattle.pn_flat_laws.proofs.ReadBackLemmas.{read_back}
use Rattle.pn_markup.specs.Document.{IsDocument}
use Rattle.pn_markup.proofs.DocumentLemmas.{canonical_spells}
use Rattle.std.specs.List.{Contains}
use Rattle.pn_net.specs.Documents.{HasSoundLinks, HasSoundNetSorts, StandsInTree, links, shape, sorts}
use Rattle.pn_net.specs.Documents as documents
use Rattle.pn_net.specs.Flattening.{IsFlattened, net_of_flat}
use Rattle.pn_net.specs.declared.flat.Flat.{Flat}
use Rattle.pn_objects.specs.declared.net.Net.{Net}
use Rattle.pn_pages.proofs.SpellableLemmas.{flat_is_spellable}
use Rattle.pn_pages.proofs.WritableLemmas.{flat_is_writable}
use Rattle.pn_round_trip.proofs.WritableNets.{writable}
use Rattle.pn_scan.proofs.ReachLemmas.{one_tree}
use Rattle.pn_tree.specs.Elements.{IsTree}
use Rattle.pn_objects.specs.Offsets.{IsSameNet}
use Rattle.pn_round_trip.proofs.NetLaws.{net_spellable, spellable_same, spellable_shaped}
use Rattle.pn_spelling.specs.ReadNets.{net_of}
use Rattle.pn_spelling.specs.WriteNets.{tree_of_net}
use Rattle.pn_tree.specs.Canonical.{canonical_text}
use Rattle.pn_tree.specs.declared.element.Element.{Element}
use Rattle.pn_documents.specs.Written.{IsFaultlessNet, IsFitToWrite, SpellsNet}
use Rattle.pn_documents.proofs.LinkedLemmas.{flat_sound}
use Rattle.pn_documents.proofs.PartBlindLemmas.{same_net}
use Rattle.pn_documents.proofs.ShapeBlindLemmas.{shape_alike}

-- a tree without faults of shape, whose net is the same as the flat net of one without faults, is accepted
accepted_as : (n flat : Net) (other : Element) → IsFlattened n flat → IsFaultlessNet n → IsSameNet (net_of other) flat → HasSoundLinks other → IsAccepted other
accepted_as n flat other p faultless same linked f stands = by stands
  where
    in_order : StandsInTree other f → ⊥
    in_order (shape _ has) = contains_nil f (subst (λ fs. Contains fs f) linked.spells has)
    in_order (links _ clean stands) = linked.links f stands
    in_order (sorts _ g sound stands is) = sorts_kept n flat (net_of other) p same faultless.sorts g stands
    in_order (documents.typing _ sound stands) = typing_kept n flat (net_of other) p same faultless.links faultless.typing f stands

    by : IsFaultOf other f → ⊥
    by (in_tree _ stands) = in_order stands
    by (no_value _ sound stands) = values_kept n flat (net_of other) p same faultless.values f stands

-- what is written of a flat net that is fit for it is a document of the same net
pub written_of : (n flat : Net) → IsFitToWrite n flat → SpellsNet flat (canonical_text (tree_of_net flat))
written_of n flat fit =
    let text = canonical_spells (tree_of_net flat) fit.writable.tree in
    let shaped = shape_alike text.tree (tree_of_net flat) text.alike (spellable_shaped flat fit.spellable) in
    let same : IsSameNet (net_of text.tree) flat = same_net text.tree (tree_of_net flat) text.alike ∙ spellable_same flat fit.spellable in
    let linked : HasSoundLinks text.tree = record { spells = shaped; links = flat_sound n flat (net_of text.tree) fit.faultless.links fit.flattened same } in
    record {
      tree = text.tree;
      is_document = text.is_document;
      accepted = accepted_as n flat text.tree fit.flattened fit.faultless same linked;
      same = same;
    }

-- the net of a tree that is accepted has no fault
pub faultless_net : (tree : Element) → IsAccepted tree → IsFaultlessNet (net_of tree)
faultless_net tree accepted =
    let own = accepted_links tree accepted in
    let sound : HasSoundNetSorts tree = record { linked = own; sorts = accepted_sorts tree accepted } in
    record {
      links = own.links;
      sorts = accepted_sorts tree accepted;
      typing = λ f stands. accepted f (in_tree f (documents.typing f sound stands));
      values = λ f stands. accepted f (no_value f sound stands);
    }

-- its flat net is fit to be written
pub fit_flat : (tree : Element) (flat : Net) → IsTree tree → IsAccepted tree → IsFlattened (net_of tree) flat → IsFitToWrite (net_of tree) flat
fit_flat tree flat is_tree accepted is_flat =
    let spells = (accepted_links tree accepted).spells in
    record {
      flattened = is_flat;
      faultless = faultless_net tree accepted;
      spellable = flat_is_spellable (net_of tree) flat is_flat (net_spellable tree (net_of tree) spells refl);
      writable = flat_is_writable (net_of tree) flat is_flat (writable tree is_tree spells);
    }

pub written : (tree : Element) (flat : Net) → IsTree tree → IsAccepted tree → IsFlattened (net_of tree) flat → SpellsNet flat (canonical_text (tree_of_net flat))
written tree flat is_tree accepted is_flat = written_of (net_of tree) flat (fit_flat tree flat is_tree accepted is_flat)

-- and the flat net of that document is equal to it but for offsets
pub written_alike : (tree other : Element) (f g : Flat) → IsAccepted tree → IsLinked tree f → IsDocument other (canonical_text (tree_of_net (net_of_flat f))) → IsLinked other g → AreAlikeNets f g
written_alike tree other f g accepted from doc to =
    let spelled = written tree (net_of_flat f) from.is_tree accepted from.is_flat in
    let one = one_tree spelled.tree other (canonical_text (tree_of_net (net_of_flat f))) spelled.is_document doc in
    read_back tree other f g from to (subst (λ t. IsSameNet (net_of t) (net_of_flat f)) one spelled.same)
