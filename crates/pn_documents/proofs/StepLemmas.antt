-- What is written of the net for a marking: a document of the same net, whose initial marking is this one, and which has the same steps.
use Rattle.std.proofs.Common.{◌≡◌, ◌↔◌, ℕ, List, [], refl, subst}
use Rattle.pn_bag.proofs.Canonical.{same_entries}
use Rattle.pn_checks.proofs.KeptLemmas.{accepted_sorts}
use Rattle.pn_checks.proofs.FlatLemmas.{flat_declarations}
use Rattle.pn_checks.proofs.MarkLemmas.{initial_once, says_once}
use Rattle.pn_checks.specs.Initial.{IsInitial}
use Rattle.pn_checks.specs.Linked.{IsLinked}
use Rattle.pn_checks.specs.Verdicts.{IsAccepted}
use Rattle.pn_eval.proofs.OnceLemmas.{value_once}
use Rattle.pn_flat_laws.proofs.AlikeNetLemmas.{but_marked_back, initial_kept, step_kept}
use Rattle.pn_marking.specs.Steps.{IsStep}
use Rattle.pn_markup.specs.Document.{IsDocument}
use Rattle.pn_net.proofs.OrderLemmas.{same_tokens}
use Rattle.pn_net.specs.Orders.{tokens_total}
use Rattle.pn_net.specs.Typing.{declared}
use Rattle.pn_net.specs.declared.flat.Flat.{Flat}
use Rattle.pn_net.specs.declared.mode.Mode.{Mode}
use Rattle.pn_net.specs.declared.token.Token.{Token}
use Rattle.pn_objects.specs.Offsets.{IsSameNet}
use Rattle.pn_objects.specs.declared.net.Net.{Net}
use Rattle.pn_scan.proofs.ReachLemmas.{one_tree}
use Rattle.pn_sorts.specs.Standing.{IsFaultless, Stands}
use Rattle.pn_spelling.specs.ReadNets.{net_of}
use Rattle.pn_spelling.specs.WriteNets.{tree_of_net}
use Rattle.pn_tree.specs.Canonical.{canonical_text}
use Rattle.pn_tree.specs.declared.element.Element.{Element}
use Rattle.pn_documents.specs.Fit.{HasFitSorts}
use Rattle.pn_documents.proofs.FitSortLemmas.{fit_sorts}
use Rattle.pn_documents.specs.Written.{IsFitToWrite, IsOtherMarking, SpellsNet}
use Rattle.pn_documents.proofs.FitLemmas.{marked_fit}
use Rattle.pn_documents.proofs.InitialLemmas.{marked_initial}
use Rattle.pn_documents.proofs.MarkedLemmas.{marked_alike, moves_alike}
use Rattle.pn_documents.proofs.WrittenLemmas.{written_of}

module _ (f : Flat) (m : List (Token × ℕ)) (n : Net) (other_marking : IsOtherMarking f m n) where
  abbrev tree : Element
  tree = other_marking.tree

  fitting : HasFitSorts f
  fitting = fit_sorts tree f other_marking.accepted other_marking.linked

  pub marked_fits_here : IsFitToWrite n n
  marked_fits_here = marked_fit f m fitting other_marking.tokens other_marking.bag n other_marking.marked tree other_marking.accepted other_marking.linked

  -- the bytes are a document of the same net
  pub marked_spells : SpellsNet n (canonical_text (tree_of_net n))
  marked_spells = written_of n n marked_fits_here

  module _ (other : Element) (doc : IsDocument other (canonical_text (tree_of_net n))) (g : Flat) (to : IsLinked other g) where
    same_there : IsSameNet (net_of other) n
    same_there = subst (λ t. IsSameNet (net_of t) n) (one_tree marked_spells.tree other (canonical_text (tree_of_net n)) marked_spells.is_document doc) marked_spells.same

    accepted_there : IsAccepted other
    accepted_there = subst IsAccepted (one_tree marked_spells.tree other (canonical_text (tree_of_net n)) marked_spells.is_document doc) marked_spells.accepted

    -- its initial marking is the marking
    pub marked_is_initial : IsInitial g m
    marked_is_initial =
        initial_kept _ g (marked_alike f m n other_marking.marked other_marking.linked.wired other g to same_there) m
        (marked_initial f m fitting other_marking.tokens other_marking.bag n other_marking.marked)

    faultless_there : IsFaultless g.declarations
    faultless_there x stands = accepted_sorts other accepted_there x (declared x (subst (λ ds. Stands ds x) (flat_declarations (net_of other) g to.is_flat) stands))

    -- and it has no other
    pub initial_is_marked : (k : List (Token × ℕ)) → IsInitial g k → k ≡ m
    initial_is_marked k is =
        initial_once (same_entries tokens_total (λ a b. (same_tokens a b).0)) g g k m (says_once g.declarations (λ e o p. value_once g.declarations [] [] faultless_there e o p)) refl refl is marked_is_initial

    -- it has the steps of the flat net
    pub marked_steps : (old new : List (Token × ℕ)) (modes : List (Mode × ℕ)) → IsStep f old modes new ↔ IsStep g old modes new
    marked_steps old new modes =
        let alike = moves_alike f m n other_marking.marked other_marking.linked.wired other g to same_there in
        (step_kept f g alike old new modes, step_kept g f (but_marked_back f g alike) old new modes)
