-- What ids name, as more of them are noted.
use Rattle.std.proofs.Common.{◌≡◌, ◌≢◌, ℕ, ◌+◌, ◌<◌, Bool, true, false, List, [], ◌∷◌, ◌++◌, map, length, take, drop, get_or, cond, None, Some, is_none, IsTrue, Result, Ok, Err, IfOk, refl, sym, ap, ◌∙◌, subst, append_assoc, append-nil, add-one, take-append-drop}
use Rattle.std.proofs.lemmas.List.{map-append}
use Rattle.std.proofs.lemmas.Slice.Eq.{bytes_eq-Decides}
use Rattle.std.proofs.Math.Seq.{take-suc}
use Rattle.std.specs.Prelude.{String, string_bytes}
use Rattle.std.specs.declared.alloc.Global.{Global}
use Rattle.std.specs.Map.{lookup}
use Rattle.std.specs.Str.{bytes_eq}
use Rattle.pn_facts.proofs.Bytes.{bytes_differ, equal_bytes}
use Rattle.pn_facts.proofs.Options.{cond_none, none_from, not_none}
use Rattle.pn_ids.specs.Entries.{entry_name}
use Rattle.pn_ids.specs.Names.{named_in, AreDistinct, NotesAll}

-- a look-up by text finds what the id names
pub named_of_entries : {A : Type 0} → (entries : List (String Global × A)) (id : List ℕ) → lookup (λ k. bytes_eq id (string_bytes k)) entries ≡ named_in (map entry_name entries) id
named_of_entries [] id = refl
named_of_entries (e ∷ entries) id = ap (λ r. cond (bytes_eq id (string_bytes e.0)) (Some e.1) r) (named_of_entries entries id)

abbrev pub Names : Type 0 → Type 0
Names A = List (List ℕ × A)

module _ {A : Type 0} where
  -- an id that is none of these and not the last is not there
  named_in-last : (ns : Names A) (n : List ℕ × A) (id : List ℕ) → named_in ns id ≡ None → bytes_eq id n.0 ≡ false → named_in (ns ++ n ∷ []) id ≡ None
  named_in-last [] n id none differ = rw differ refl
  named_in-last (m ∷ ns) n id none differ =
      let parts = cond_none (bytes_eq id m.0) m.1 (named_in ns id) none in
      ap (λ t. cond t (Some m.1) (named_in (ns ++ n ∷ []) id)) parts.0 ∙ named_in-last ns n id parts.1 differ

  -- an id is named where it stands
  named_there : (ns : Names A) (n : List ℕ × A) (more : Names A) → named_in (ns ++ n ∷ more) n.0 ≡ None → ⊥
  named_there [] n more e = let parts = cond_none (bytes_eq n.0 n.0) n.1 (named_in more n.0) e in let yes = equal_bytes n.0 in cc
  named_there (m ∷ ns) n more e = named_there ns n more (cond_none (bytes_eq n.0 m.0) m.1 (named_in (ns ++ n ∷ more) n.0) e).1

  -- distinct ids with one that is new
  distinct_last : (ns : Names A) (n : List ℕ × A) → AreDistinct ns → named_in ns n.0 ≡ None → AreDistinct (ns ++ n ∷ [])
  distinct_last [] n d none = (refl, tt)
  distinct_last (m ∷ ns) n d none =
      let parts = cond_none (bytes_eq n.0 m.0) m.1 (named_in ns n.0) none in
      (named_in-last ns n m.0 d.0 (bytes_differ n.0 m.0 parts.0), distinct_last ns n d.1 parts.1)

  -- ids with one that is there already
  distinct_clash : (ns : Names A) (n : List ℕ × A) (more : Names A) → named_in ns n.0 ≢ None → AreDistinct (ns ++ n ∷ more) → ⊥
  distinct_clash [] n more there d = there refl
  distinct_clash (m ∷ ns) n more there d = step (bytes_eq n.0 m.0) refl (λ h. distinct_clash ns n more h d.1)
    where
      step : (b : Bool) → bytes_eq n.0 m.0 ≡ b → (named_in ns n.0 ≢ None → ⊥) → ⊥
      step true e later =
          let same = (bytes_eq-Decides n.0 m.0).0 e in
          named_there ns n more (subst (λ (v : List ℕ). named_in (ns ++ n ∷ more) v ≡ None) (sym same) d.0)
      step false e later = later (λ h. there (ap (λ t. cond t (Some m.1) (named_in ns n.0)) e ∙ h))

  -- one id noted
  pub notes_one : (old new : Names A) (n : List ℕ × A) (b : Bool) → b ≡ is_none (named_in old n.0) → (IsTrue b → new ≡ old ++ n ∷ []) → NotesAll old new (n ∷ []) b
  notes_one old new n true fresh noted = (noted refl, λ distinct. distinct_last old n distinct (none_from (named_in old n.0) (sym fresh)))
  notes_one old new n false fresh noted = λ more distinct. distinct_clash old n more (not_none (named_in old n.0) (sym fresh)) distinct

  -- ids noted part by part: those so far, with the rest, are all
  pub record NotesPart (old new rest all : Names A) : Type 0 where
    pub whole : new ++ rest ≡ old ++ all
    pub distinct : AreDistinct old → AreDistinct new

  -- an id that is there already, in the next part
  pub part_clash : (old new newer names rest left all : Names A) → left ≡ names ++ rest → NotesPart old new left all → NotesAll new newer names false → NotesAll old newer all false
  part_clash old new newer names rest left all split part notes more distinct =
      notes (rest ++ more) (subst AreDistinct (sym (append_assoc old all more) ∙ ap (λ l. l ++ more) (sym part.whole ∙ ap (λ l. new ++ l) split) ∙ append_assoc new (names ++ rest) more ∙ ap (λ l. new ++ l) (append_assoc names rest more)) distinct)

  -- some ids, and then more
  pub notes_then : (a b c : Names A) (xs ys : Names A) (r : Bool) → NotesAll a b xs true → NotesAll b c ys r → NotesAll a c (xs ++ ys) r
  notes_then a b c xs ys true first then =
      let joined : b ++ ys ≡ a ++ (xs ++ ys) = ap (λ l. l ++ ys) first.0 ∙ append_assoc a xs ys in
      (then.0 ∙ joined, λ distinct. subst AreDistinct joined (then.1 (subst AreDistinct (sym first.0) (first.1 distinct))))
  notes_then a b c xs ys false first then = λ more distinct.
      then more (subst AreDistinct (ap (λ l. a ++ l) (append_assoc xs ys more) ∙ sym (append_assoc a xs (ys ++ more)) ∙ ap (λ l. l ++ (ys ++ more)) (sym first.0)) distinct)

  pub notes_stop : (a b c : Names A) (xs ys : Names A) → NotesAll a b xs false → NotesAll a c (xs ++ ys) false
  notes_stop a b c xs ys first more distinct = first (ys ++ more) (subst AreDistinct (ap (λ l. a ++ l) (append_assoc xs ys more)) distinct)

  -- ids noted from nothing, one of them twice
  pub nothing_clash : (new names : Names A) → NotesAll [] new names false → AreDistinct names → ⊥
  nothing_clash new names notes distinct = notes [] (subst AreDistinct (sym (append-nil names)) distinct)

  module _ {B : Type 0} (name : B → List ℕ × A) (items : List B) (i : ℕ) (d : B) (lt : i < length items) (old new newer : Names A) (so_far : NotesAll old new (map name (take i items)) true) where
    next : map name (take (i + 1) items) ≡ map name (take i items) ++ name (get_or items i d) ∷ []
    next = ap (map name) (rw add-one (take-suc items i d lt)) ∙ map-append name (take i items) (get_or items i d ∷ [])

    -- one more item noted
    pub noted_next : NotesAll new newer (name (get_or items i d) ∷ []) true → NotesAll old newer (map name (take (i + 1) items)) true
    noted_next one = subst (λ l. NotesAll old newer l true) (sym next) (notes_then old new newer (map name (take i items)) (name (get_or items i d) ∷ []) true so_far one)

    -- an item that is there already
    pub noted_clash : NotesAll new newer (name (get_or items i d) ∷ []) false → NotesAll old newer (map name items) false
    noted_clash one =
        let whole : map name items ≡ map name (take (i + 1) items) ++ map name (drop (i + 1) items) = ap (map name) (sym (take-append-drop (i + 1) items)) ∙ map-append name (take (i + 1) items) (drop (i + 1) items) in
        let here = notes_then old new newer (map name (take i items)) (name (get_or items i d) ∷ []) false so_far one in
        subst (λ l. NotesAll old newer l false) (sym whole) (notes_stop old newer newer (map name (take (i + 1) items)) (map name (drop (i + 1) items)) (subst (λ l. NotesAll old newer l false) (sym next) here))

pub if_ok_both : {T E : Type 0} (r : Result T E) (P Q R : T → Type 0) → ((v : T) → P v → Q v → R v) → IfOk r P → IfOk r Q → IfOk r R
if_ok_both (Ok v) P Q R f p q = f v p q
if_ok_both (Err e) P Q R f p q = tt
