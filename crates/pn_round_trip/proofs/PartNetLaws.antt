-- The elements of one name in an element without a fault of shape, and those that are written for what they spell.
use Rattle.std.proofs.Common.{◌≡◌, ◌⊎◌, inl, inr, ℕ, ◌+◌, ◌≤◌, Bool, true, false, cond, ◌==◌, ◌||◌, List, [], ◌∷◌, map, length, codes, Option, Some, None, IfSome, refl, sym, ap, subst, ◌∙◌, arith}
use Rattle.std.specs.Prelude.{option_to_list, IsSome}
use Rattle.std.specs.List.{slice_get, slice_index_or, filter, find, AllByRecursion}
use Rattle.std.specs.Option.{option_map}
use Rattle.std.specs.Str.{bytes_eq}
use Rattle.std.proofs.lemmas.Bool.Decides.{nat_tests}
use Rattle.std.proofs.lemmas.Slice.Eq.{bytes_eq-Decides}
use Rattle.pn_operators.specs.declared.kind.Kind.{Kind}
use Rattle.pn_tree.specs.declared.element.Element.{Element}
use Rattle.pn_markup.specs.Offsets.{without_offsets}
use Rattle.pn_markup.proofs.OffsetLemmas.{without_offsets_is}
use Rattle.pn_shape.specs.Faults.{no_slot, is_opaque, IsShaped}
use Rattle.pn_shape.specs.Rules.{Saying, rule_for, is_had}
use Rattle.pn_shape.specs.Shaped.{HasShape}
use Rattle.pn_shape.specs.Spots.{filled, has_slot, spot_at, spot_in, tag_of}
use Rattle.pn_shape.specs.declared.rule.Fill.TheVariants as fill
use Rattle.pn_shape.specs.declared.rule.Slot.{Slot}
use Rattle.pn_shape.specs.declared.search.Spot.{Spot}
use Rattle.pn_shape.specs.declared.tag.Tag.{Tag}
use Rattle.pn_shape.specs.declared.tag.Tag.TheVariants as tag
use Rattle.pn_shape.proofs.PlaceLemmas.{spot_fills, tag_is, one_is}
use Rattle.pn_shape.proofs.ShapedLemmas.{opaque_shaped}
use Rattle.pn_shape.proofs.WrittenLemmas.{FillsPlace, as_kids}
use Rattle.pn_spelling.specs.Parts.{child_elements, elements_among, child_named, children_named, has_name}
use Rattle.pn_spelling.specs.ReadNets.{is_opaque_part, opaque_parts}
use Rattle.pn_spelling.specs.WriteNets.{kids_of}
use Rattle.pn_round_trip.specs.Spellable.{AreKept, IsHadWith}
use Rattle.pn_facts.proofs.Each.{filtered}
use Rattle.pn_round_trip.proofs.KidLemmas.{Stands, elements_again, filled_elements, filled_first, stand_among}
use Rattle.pn_round_trip.proofs.GroupNetLaws.{Group, FitsAt, IsCalled, AreCalled, members_of, opaque_name, picked, picked_is}

-- what is, offsets aside, what an element of this tag spells is such a thing; such a thing is written as an element of this tag without a fault of shape, and reads back as the same
pub record PartLaw {A : Type 0} (k : Kind) (t : Tag) (about : Element → Type 0) (IsSuch : A → Type 0) (read : Element → A) (spell : A → Element) (clear : A → A) : Type 0 where
  pub such : (e : Element) (a : A) → about e → IsShaped k t e → clear a ≡ clear (read e) → IsSuch a
  pub shaped : (a : A) → IsSuch a → IsShaped k t (spell a)
  pub same : (a : A) → IsSuch a → clear (read (spell a)) ≡ clear a

-- the elements of this name stand in this place, and are of this tag
pub record NamedPlace (k : Kind) (says : Saying) (i : ℕ) (n : List ℕ) (t : Tag) (slot : Slot) : Type 0 where
  pub at : slice_get says.slots i ≡ Some slot
  pub here : slice_index_or says.slots i no_slot ≡ slot
  pub fills : slot.fill ≡ fill.One t
  pub row : (rule_for t).name ≡ n
  pub spot : (s : Spot) → spot_in k n 0 says.slots ≡ Some s → s ≡ spot_at i t
  pub there : is_had k t ≡ true → spot_in k n 0 says.slots ≡ Some (spot_at i t)

pub listed : {A : Type 0} (P : A → Type 0) (o : Option A) → IfSome o P → AllByRecursion P (option_to_list o)
listed P None h = tt
listed P (Some a) h = (h, tt)

pub if_listed : {A : Type 0} (P : A → Type 0) (o : Option A) → AllByRecursion P (option_to_list o) → IfSome o P
if_listed P None h = tt
if_listed P (Some a) h = h.0

pub every_one : {X : Type 0} (xs : List X) → AllByRecursion (λ x. Unit {0}) xs
every_one [] = tt
every_one (x ∷ xs) = (tt, every_one xs)

module _ (k : Kind) (says : Saying) (i : ℕ) (n : List ℕ) (t : Tag) (slot : Slot) (is_place : NamedPlace k says i n t slot) where
  abbrev There : Element → Type 0
  There x = IsShaped k t x × (is_had k t ≡ true)

  stands_there : (x : Element) (s : Spot) → spot_in k x.name 0 says.slots ≡ Some s → IsShaped k s.tag x → x.name ≡ n → (s ≡ spot_at i t) × There x
  stands_there x s is shaped named =
      let here = ap (λ m. spot_in k m 0 says.slots) (sym named) ∙ is in
      let same = is_place.spot s here in
      let f = spot_fills k x.name says.slots s is in
      let had = (tag_is k x.name f.0.fill s.tag f.2).1 in
      (same, (subst (λ (r : Spot). IsShaped k r.tag x) same shaped, subst (λ (r : Spot). is_had k r.tag ≡ true) same had))

  named_where : (x : Element) (s : Spot) → spot_in k x.name 0 says.slots ≡ Some s → s.place ≡ i → x.name ≡ n
  named_where x s is place =
      let f = spot_fills k x.name says.slots s is in
      let found : Some f.0 ≡ Some slot = sym f.1 ∙ ap (slice_get says.slots) place ∙ is_place.at in
      let same : f.0 ≡ slot = cc in
      let fills : fill.One t ≡ f.0.fill = sym (ap (λ (r : Slot). r.fill) same ∙ is_place.fills) in
      let tagged : tag_of k x.name (fill.One t) ≡ Some s.tag = ap (λ g. tag_of k x.name g) fills ∙ f.2 in
      sym (tag_is k x.name (fill.One t) s.tag tagged).0 ∙ ap (λ u. (rule_for u).name) (one_is k x.name t s.tag tagged) ∙ is_place.row

  counted : (xs : List Element) → AllByRecursion (Stands k says) xs → filled k says.slots i (as_kids xs) ≡ length (filter (has_name n) xs)
  counted [] all = refl
  counted (x ∷ xs) (one, more) = filled_first k says i x one.0 (as_kids xs) one.1 ∙ step (has_name n x) (one.0.place == i) refl refl (counted xs more)
    where
      step : (b c : Bool) → has_name n x ≡ b → (one.0.place == i) ≡ c → filled k says.slots i (as_kids xs) ≡ length (filter (has_name n) xs)
          → cond (one.0.place == i) 1 0 + filled k says.slots i (as_kids xs) ≡ length (cond (has_name n x) (x ∷ filter (has_name n) xs) (filter (has_name n) xs))
      step true true named there rest = rw (named, there) (omega (arith, rest))
      step false false named there rest = rw (named, there) (omega (arith, rest))
      step true false named there rest =
          let at = ap (λ (s : Spot). s.place) (stands_there x one.0 one.1 one.2 ((bytes_eq-Decides x.name n).0 named)).0 in
          absurd (grind (arith, nat_tests))
      step false true named there rest =
          let at : one.0.place ≡ i = grind (arith, nat_tests) in
          let other : has_name n x ≡ true = (bytes_eq-Decides x.name n).1 (named_where x one.0 one.1 at) in
          absurd cc

  number_named : (e : Element) → HasShape k says e → filled k says.slots i e.kids ≡ length (children_named n e)
  number_named e shape = sym (filled_elements k says i e.kids) ∙ counted (child_elements e) (stand_among k says e.kids shape.kids)

  there_named : (e : Element) → HasShape k says e → AllByRecursion There (children_named n e)
  there_named e shape =
      filtered (Stands k says) There (has_name n) (λ x stands named. (stands_there x stands.0 stands.1 stands.2 ((bytes_eq-Decides x.name n).0 named)).1) (child_elements e) (stand_among k says e.kids shape.kids)

  module _ {A : Type 0} (about : Element → Type 0) (IsSuch : A → Type 0) (read : Element → A) (spell : A → Element) (clear : A → A) (called : (a : A) → (spell a).name ≡ n)
      (law : is_had k t ≡ true → PartLaw k t about IsSuch read spell clear) where
    -- what the elements of this name spell is such

    all_such : (es : List Element) (things : List A) → AllByRecursion There es → AllByRecursion about es → map clear things ≡ map clear (map read es)
        → AllByRecursion (IsHadWith k t IsSuch) things × (length things ≡ length es)
    all_such [] [] there h alike = (tt, refl)
    all_such [] (a ∷ things) there h alike = absurd cc
    all_such (e ∷ es) [] there h alike = absurd cc
    all_such (e ∷ es) (a ∷ things) there h alike =
        let one : clear a ≡ clear (read e) = cc in
        let more : map clear things ≡ map clear (map read es) = cc in
        let rest = all_such es things there.1 h.1 more in
        (((there.0.1, (law there.0.1).such e a h.0 there.0.0 one), rest.0), omega (arith, rest.1))

    pub list_such : (e : Element) (things : List A) → HasShape k says e → AllByRecursion about (children_named n e) → map clear things ≡ map clear (map read (children_named n e))
        → AllByRecursion (IsHadWith k t IsSuch) things × (length things ≡ filled k says.slots i e.kids)
    list_such e things shape h alike =
        let all = all_such (children_named n e) things (there_named e shape) h alike in
        (all.0, all.1 ∙ sym (number_named e shape))

    -- the same where one may be there at most
    pub option_such : (e : Element) (o : Option A) → slot.most ≡ Some 1 → HasShape k says e → AllByRecursion about (children_named n e)
        → option_map clear o ≡ option_map clear (option_map read (child_named n e)) → IfSome o (IsHadWith k t IsSuch) × (length (option_to_list o) ≡ filled k says.slots i e.kids)
    option_such e o most shape h alike =
        let all = list_such e (option_to_list o) shape h
        (as_list o (find (has_name n) (child_elements e)) alike ∙ ap (λ es. map clear (map read es)) (sym (only_found (has_name n) (child_elements e) no_more))) in
        (if_listed (IsHadWith k t IsSuch) o all.0, all.1)
      where
        as_list : (o : Option A) (p : Option Element) → option_map clear o ≡ option_map clear (option_map read p) → map clear (option_to_list o) ≡ map clear (map read (option_to_list p))
        as_list None None alike = refl
        as_list None (Some x) alike = absurd cc
        as_list (Some a) None alike = absurd cc
        as_list (Some a) (Some x) alike = let one : clear a ≡ clear (read x) = cc in ap (λ y. y ∷ []) one

        no_more : length (filter (has_name n) (child_elements e)) ≤ 1
        no_more =
            subst (λ m. m ≤ 1) (number_named e shape)
            (subst (λ m. IfSome m (λ most. filled k says.slots i e.kids ≤ most)) (ap (λ (s : Slot). s.most) is_place.here ∙ most) (shape.most i))

        none_left : (p : Element → Bool) (xs : List Element) → length (filter p xs) ≤ 0 → filter p xs ≡ []
        none_left p xs le = go (filter p xs) le
          where
            go : (ys : List Element) → length ys ≤ 0 → ys ≡ []
            go [] le = refl
            go (y ∷ ys) le = absurd (omega arith)

        only_found : (p : Element → Bool) (xs : List Element) → length (filter p xs) ≤ 1 → filter p xs ≡ option_to_list (find p xs)
        only_found p [] le = refl
        only_found p (x ∷ xs) le = go (p x) le (only_found p xs)
          where
            go : (b : Bool) → length (cond b (x ∷ filter p xs) (filter p xs)) ≤ 1 → (length (filter p xs) ≤ 1 → filter p xs ≡ option_to_list (find p xs))
                → cond b (x ∷ filter p xs) (filter p xs) ≡ option_to_list (cond b (Some x) (find p xs))
            go true le more = ap (λ ys. x ∷ ys) (none_left p xs (omega arith))
            go false le more = more le

    -- there is one where there has to be
    pub is_there : (e : Element) (o : Option A) → HasShape k says e → slot.least ≡ 1 → length (option_to_list o) ≡ filled k says.slots i e.kids → has_slot k slot.fill ≡ true → IsSome o
    is_there e o shape least number had = by o (omega (arith, number, least, shape.least i slot is_place.at had))
      where
        by : (o : Option A) → 1 ≤ length (option_to_list o) → IsSome o
        by None le = absurd (omega arith)
        by (Some a) le = refl

    -- the elements that are written for such things

    record IsWritten (things : List A) : Type 0 where
      stands : AllByRecursion (FillsPlace k says i) (map spell things)
      named : AllByRecursion (IsCalled (Some n)) (map spell things)
      number : length (map spell things) ≡ length things
      again : map clear (map read (map spell things)) ≡ map clear things

    each_written : (things : List A) → AllByRecursion (IsHadWith k t IsSuch) things → IsWritten things
    each_written [] h = record { stands = tt; named = tt; number = refl; again = refl }
    each_written (a ∷ things) h =
        let rest = each_written things h.1 in
        let own = law h.0.0 in
        record {
          stands = ((spot_at i t, ap (λ m. spot_in k m 0 says.slots) (called a) ∙ is_place.there h.0.0, refl, own.shaped a h.0.1), rest.stands);
          named = (called a, rest.named);
          number = omega (arith, rest.number);
          again = λ j. own.same a h.0.1 j ∷ rest.again j;
        }

    abbrev pub group_of : List A → Group
    group_of things = record { slot = slot; called = Some n; members = map spell things }

    pub record IsGroup (things : List A) : Type 0 where
      pub fits : FitsAt k says i (group_of things)
      pub named : AllByRecursion (IsCalled (Some n)) (map spell things)
      pub again : map clear (map read (map spell things)) ≡ map clear things

    -- they fit, where they are as many as there have to be, and read back as the same things
    pub group_is : (things : List A) → AllByRecursion (IsHadWith k t IsSuch) things → IfSome slot.most (λ most. length things ≤ most) → (has_slot k slot.fill ≡ true → slot.least ≤ length things) → IsGroup things
    group_is things h most least =
        let w = each_written things h in
        record {
          fits = record {
            stands = w.stands;
            most = subst (λ m. IfSome slot.most (λ most. m ≤ most)) (sym w.number) most;
            least = λ had. subst (λ m. slot.least ≤ m) (sym w.number) (least had);
          };
          named = w.named;
          again = w.again;
        }

    -- the same where one may be there at most
    pub option_group_is : (o : Option A) → slot.most ≡ Some 1 → IfSome o (IsHadWith k t IsSuch) → (has_slot k slot.fill ≡ true → slot.least ≤ length (option_to_list o)) → IsGroup (option_to_list o)
    option_group_is o most h least = group_is (option_to_list o) (listed (IsHadWith k t IsSuch) o h) (subst (λ m. IfSome m (λ most. length (option_to_list o) ≤ most)) (sym most) (by o)) least
      where
        by : (o : Option A) → length (option_to_list o) ≤ 1
        by None = omega arith
        by (Some a) = omega arith

  -- where one has to be there, there is one
  pub required_there : (e : Element) → slot.least ≡ 1 → has_slot k slot.fill ≡ true → HasShape k says e → (y : Element) × (child_named n e ≡ Some y)
  required_there e least had shape = find_some (child_elements e) (omega (arith, least, number_named e shape, shape.least i slot is_place.at had))
    where
      find_some : (xs : List Element) → 1 ≤ length (filter (has_name n) xs) → (y : Element) × (find (has_name n) xs ≡ Some y)
      find_some [] le = absurd (omega arith)
      find_some (x ∷ xs) le = go (has_name n x) refl le (find_some xs)
        where
          go : (b : Bool) → has_name n x ≡ b → 1 ≤ length (cond b (x ∷ filter (has_name n) xs) (filter (has_name n) xs)) → (1 ≤ length (filter (has_name n) xs) → (y : Element) × (find (has_name n) xs ≡ Some y))
              → (y : Element) × (find (has_name n) (x ∷ xs) ≡ Some y)
          go true is le more = (x, ap (λ b. cond b (Some x) (find (has_name n) xs)) is)
          go false is le more = let rest = more le in (rest.0, ap (λ b. cond b (Some x) (find (has_name n) xs)) is ∙ rest.1)

-- what was written, read back

pub find_first : (p : Element → Bool) (xs : List Element) → find p xs ≡ slice_get (filter p xs) 0
find_first p [] = refl
find_first p (x ∷ xs) = by (p x) (find_first p xs)
  where
    by : (b : Bool) → find p xs ≡ slice_get (filter p xs) 0 → cond b (Some x) (find p xs) ≡ slice_get (cond b (x ∷ filter p xs) (filter p xs)) 0
    by true rest = refl
    by false rest = rest

-- the first of these is what was written for what may be there
pub find_written : {A : Type 0} (p : Element → Bool) (spell : A → Element) (o : Option A) (xs : List Element) → filter p xs ≡ map spell (option_to_list o) → find p xs ≡ option_map spell o
find_written {A = A} p spell o xs is = find_first p xs ∙ ap (λ ys. slice_get ys 0) is ∙ by o
  where
    by : (o : Option A) → slice_get (map spell (option_to_list o)) 0 ≡ option_map spell o
    by None = refl
    by (Some a) = refl

pub option_again : {A : Type 0} (read : Element → A) (spell : A → Element) (clear : A → A) (o : Option A) → map clear (map read (map spell (option_to_list o))) ≡ map clear (option_to_list o)
    → option_map clear (option_map read (option_map spell o)) ≡ option_map clear o
option_again read spell clear None is = refl
option_again read spell clear (Some a) is = let one : clear (read (spell a)) ≡ clear a = cc in ap Some one

pub kids_of_is : {A : Type 0} (spell : A → Element) (o : Option A) → kids_of spell o ≡ as_kids (map spell (option_to_list o))
kids_of_is spell None = refl
kids_of_is spell (Some a) = refl

-- the parts that are kept as they are

pub record OpaquePlace (k : Kind) (says : Saying) (i : ℕ) (slot : Slot) : Type 0 where
  pub most : slot.most ≡ None
  pub least : slot.least ≡ 0
  pub graphics : spot_in k (codes "graphics") 0 says.slots ≡ Some (spot_at i tag.Graphics)
  pub toolspecific : spot_in k (codes "toolspecific") 0 says.slots ≡ Some (spot_at i tag.ToolSpecific)

nothing_asked : (is_opaque (rule_for tag.Graphics).content ≡ true) × (is_opaque (rule_for tag.ToolSpecific).content ≡ true)
unfolding rule_for
nothing_asked = (refl, refl)

same_name : (x y : Element) → without_offsets x ≡ without_offsets y → x.name ≡ y.name
same_name x y alike = ap (λ (e : Element). e.name) (sym (without_offsets_is x) ∙ alike ∙ without_offsets_is y)

kept_parts : (xs es : List Element) → map without_offsets xs ≡ map without_offsets es → AreKept es → AreKept xs
kept_parts [] es alike h = tt
kept_parts (x ∷ xs) [] alike h = absurd cc
kept_parts (x ∷ xs) (e ∷ es) alike h =
    let one : without_offsets x ≡ without_offsets e = cc in
    let more : map without_offsets xs ≡ map without_offsets es = cc in
    (ap (λ m. bytes_eq m (codes "graphics") || bytes_eq m (codes "toolspecific")) (same_name x e one) ∙ h.0, kept_parts xs es more h.1)

pub kept_called : (e : Element) (xs : List Element) → map without_offsets xs ≡ map without_offsets (opaque_parts e) → AreKept xs
kept_called e xs alike =
    kept_parts xs (opaque_parts e) alike (filtered (λ x. Unit {0}) (λ x. is_opaque_part x ≡ true) is_opaque_part (λ x h kept. kept) (child_elements e) (every_one (child_elements e)))

module _ (k : Kind) (says : Saying) (i : ℕ) (slot : Slot) (is_place : OpaquePlace k says i slot) where
  kept_stand : (xs : List Element) → AreKept xs → AllByRecursion (FillsPlace k says i) xs
  kept_stand [] h = tt
  kept_stand (x ∷ xs) h = (by (opaque_name x h.0), kept_stand xs h.1)
    where
      by : (x.name ≡ codes "graphics") ⊎ (x.name ≡ codes "toolspecific") → FillsPlace k says i x
      by (inl e) = (spot_at i tag.Graphics, ap (λ m. spot_in k m 0 says.slots) e ∙ is_place.graphics, refl, opaque_shaped k tag.Graphics x nothing_asked.0)
      by (inr e) = (spot_at i tag.ToolSpecific, ap (λ m. spot_in k m 0 says.slots) e ∙ is_place.toolspecific, refl, opaque_shaped k tag.ToolSpecific x nothing_asked.1)

  abbrev pub kept_group : List Element → Group
  kept_group xs = record { slot = slot; called = None; members = xs }

  pub kept_fits : (xs : List Element) → AreKept xs → FitsAt k says i (kept_group xs)
  kept_fits xs h = record {
    stands = kept_stand xs h;
    most = subst (λ m. IfSome m (λ most. length xs ≤ most)) (sym is_place.most) tt;
    least = λ had. omega (arith, is_place.least);
  }

-- an element whose kids are groups

module _ (w : Element) (gs : List Group) (kids : w.kids ≡ as_kids (members_of gs)) where
  elements_written : child_elements w ≡ members_of gs
  elements_written = ap elements_among kids ∙ elements_again (members_of gs)

  -- the elements of a name in it
  pub written_named : AreCalled gs → (n : List ℕ) → bytes_eq (codes "graphics") n ≡ bytes_eq (codes "toolspecific") n → children_named n w ≡ picked (λ m. bytes_eq m n) gs
  written_named called n alike = ap (filter (has_name n)) elements_written ∙ picked_is (λ m. bytes_eq m n) alike gs called

  -- the parts of it that are kept as they are
  pub written_kept : AreCalled gs → opaque_parts w ≡ picked (λ m. bytes_eq m (codes "graphics") || bytes_eq m (codes "toolspecific")) gs
  written_kept called = ap (filter is_opaque_part) elements_written ∙ picked_is (λ m. bytes_eq m (codes "graphics") || bytes_eq m (codes "toolspecific")) refl gs called
