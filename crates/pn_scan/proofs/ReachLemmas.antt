-- A state is reached by each front of a document, and a document has one tree.
use Rattle.std.proofs.Common.{◌≡◌, ℕ, List, [], ◌∷◌, ◌++◌, length, Option, Some, None, refl, sym, ◌∙◌, subst, append_assoc, append-nil}
use Rattle.pn_tree.specs.declared.element.Element.{Element}
use Rattle.pn_markup.specs.Document.{IsDocument, IsFront}
use Rattle.pn_scan.specs.State.{State, at_start, at_end}
use Rattle.pn_scan.specs.NextState.{next_state}
use Rattle.pn_utf8.specs.Characters.{open_behind}
use Rattle.pn_scan.specs.Fed.{Fed}
use Rattle.pn_scan.proofs.FedLemmas.{fed_start, fed_more, fed_no_character, fed_no_state, fed_document, front_less}

-- a state that bytes lead to
pub record Reached (b : List ℕ) : Type 0 where
  pub state : State
  pub open_bytes : List ℕ
  pub fed : Fed state open_bytes b

pub reached_more : (b : List ℕ) (x : ℕ) → Reached b → IsFront (b ++ (x ∷ [])) → Reached (b ++ (x ∷ []))
reached_more b x r d = go (open_behind r.open_bytes x) refl (next_state r.state (length b) x) refl
  where
    go : (o : Option (List ℕ)) → open_behind r.open_bytes x ≡ o → (s : Option State) → next_state r.state (length b) x ≡ s → Reached (b ++ (x ∷ []))
    go None i s j = absurd (fed_no_character r.state r.open_bytes b x r.fed i d)
    go (Some o) i None j = absurd (fed_no_state r.state r.open_bytes b x r.fed j d)
    go (Some o) i (Some s) j = record { state = s; open_bytes = o; fed = fed_more r.state r.open_bytes b x o s r.fed i j }

reach : (done rest : List ℕ) → Reached done → IsFront (done ++ rest) → Reached (done ++ rest)
reach done [] r d = subst Reached (sym (append-nil done)) r
reach done (x ∷ rest) r d =
    let all = append_assoc done (x ∷ []) rest in
    let more = subst IsFront (sym all) d in subst Reached all (reach (done ++ (x ∷ [])) rest (reached_more done x r (front_less (done ++ (x ∷ [])) rest more)) more)

pub reached : (b : List ℕ) → IsFront b → Reached b
reached b d = reach [] b (record { state = at_start; open_bytes = []; fed = fed_start }) d

root_of : (s t : Element) → at_end s ≡ at_end t → s ≡ t
root_of s t h = cc

pub one_tree : (t u : Element) (b : List ℕ) → IsDocument t b → IsDocument u b → t ≡ u
one_tree t u b d e =
    let r = reached b (t, [], subst (IsDocument t) (sym (append-nil b)) d) in
    root_of t u (sym (fed_document r.state r.open_bytes b t r.fed d).0 ∙ (fed_document r.state r.open_bytes b u r.fed e).0)
