-- Escaped ids, and marks behind them.
use Rattle.std.proofs.Common.{◌≡◌, ℕ, zero, suc, ◌<◌, Bool, true, false, not, ◌||◌, ◌==◌, nat_lt, List, [], ◌∷◌, ◌++◌, length, map, get_or, min, drop, ◌+◌, ◌≤◌, ◌^◌, Option, None, Some, is_some, option_map, cond, refl, sym, ap, ◌∙◌, subst, arith}
use Rattle.std.specs.List.{list_all, list_any, slice_get}
use Rattle.std.specs.Option.{option_and_then, unwrap_or}
use Rattle.std.proofs.lemmas.Bool.{false≢true}
use Rattle.std.proofs.lemmas.Bool.Decides.{nat_tests}
use Rattle.std.proofs.lemmas.Option.{none-some, slice_get-map, slice_get_within}
use Rattle.pn_carriers.proofs.ValueLemmas.{constant_is, out-const}
use Rattle.pn_carriers.proofs.LayerLemmas.{carrier-enumeration, finite-enumeration}
use Rattle.pn_carriers.proofs.SizeLemmas.{length_constants}
use Rattle.pn_carriers.specs.Carriers.{carrier, width_of}
use Rattle.pn_carriers.specs.Members.{is_constant}
use Rattle.pn_carriers.specs.Sizes.{capped_size, size_of}
use Rattle.pn_facts.proofs.Lists.{drop_got, got, list_all_each}
use Rattle.pn_facts.proofs.Truths.{and_left, and_right}
use Rattle.pn_ids.specs.Names.{AreDistinct}
use Rattle.pn_lines.proofs.TextLemmas.{escaped_is_clean, escaped_tells}
use Rattle.pn_lines.specs.Escapes.{escape, escaped, is_line_byte}
use Rattle.pn_names.proofs.DeclaredLemmas.{declared_found, found_declared}
use Rattle.pn_names.proofs.DeclaredLemmas.{constant_is as is_such_constant}
use Rattle.pn_names.specs.Names.{IsConstant, constant_ids, constant_named, id_of_constant, meaning_of, names_of, widths_of}
use Rattle.pn_names.specs.declared.Declared.TheVariants as declared
use Rattle.pn_syntax.specs.declared.declaration.Declaration.{Declaration}
use Rattle.pn_terms.proofs.SortLemmas.{same_some}
use Rattle.pn_values.specs.declared.constant_ref.ConstantRef.{ConstantRef}
use Rattle.pn_values.specs.declared.sort.Size.TheVariants as sizes
use Rattle.pn_values.specs.declared.sort.Sort.TheVariants as sorts
use Rattle.pn_values.specs.declared.value.Value.{Value}
use Rattle.pn_values.specs.declared.value.Value.TheVariants as values
use Rattle.pn_values.specs.declared.value.Value.TheViews.{out-Value}
use Rattle.pn_words.proofs.MarkLemmas.{listed_at}
use Rattle.pn_words.proofs.PieceLemmas.{closed_renamed, piece_breaks, piece_continues}
use Rattle.pn_words.proofs.PlaceLemmas.{equal_from}
use Rattle.pn_words.proofs.SameLemmas.{got_at}
use Rattle.pn_words.proofs.WayLemmas.{nothing_found, onward}
use Rattle.pn_words.specs.Languages.{AreApart, Broken, Closed, Continues, IsRead, Listed, Only, is_unmarked}
use Rattle.pn_mode_text.specs.Readings.{StandOnce, AreStops, IsConstantText, ids_at, is_stop}
use Rattle.pn_mode_text.specs.Texts.{constant_text, id_text}
use Rattle.pn_mode_text.specs.Unescaped.{Unescapes}

-- a byte of an escaped text is none of the marks
pub unmarked_byte : (marks : List ℕ) (b : ℕ) → AreStops marks → is_line_byte b ≡ true → is_unmarked marks b ≡ true
unmarked_byte [] b stops is = refl
unmarked_byte (m ∷ marks) b stops is =
    by (m == b) (list_any (λ x. x == b) marks) (λ e. false≢true (sym (ap not (ap is_line_byte (equal_from m b e) ∙ is)) ∙ and_left (is_stop m) (list_all is_stop marks) stops))
    (unmarked_byte marks b (and_right (is_stop m) (list_all is_stop marks) stops) is)
  where
    by : (p q : Bool) → (p ≡ true → ⊥) → not q ≡ true → not (p || q) ≡ true
    by true q none e = absurd (none refl)
    by false q none e = e

-- ids that stand once, escaped, are apart
pub apart_ids : (ids : List (List ℕ)) (marks : List ℕ) → AreStops marks → StandOnce ids → AreApart (map escaped ids) marks
apart_ids ids marks stops once = record {
  unmarked = λ i t got. let at = written i t got in subst (λ l. list_all (is_unmarked marks) l ≡ true) at.2 (clean at.0);
  once = λ i j t one two.
      let a = written i t one in
      let b = written j t two in
      once i j a.0 a.1 (b.1 ∙ ap Some (escaped_tells b.0 a.0 (b.2 ∙ sym a.2)));
}
  where
    written : (i : ℕ) (t : List ℕ) → slice_get (map escaped ids) i ≡ Some t → (id : List ℕ) × (slice_get ids i ≡ Some id) × (escaped id ≡ t)
    written i t is = step (slice_get ids i) refl (sym (slice_get-map escaped ids i) ∙ is)
      where
        step : (o : Option (List ℕ)) → slice_get ids i ≡ o → option_map escaped o ≡ Some t → (id : List ℕ) × (slice_get ids i ≡ Some id) × (escaped id ≡ t)
        step None at e = absurd (none-some t e)
        step (Some id) at e = (id, at, same_some (escaped id) t (Some t) (sym e) refl)

    clean : (id : List ℕ) → list_all (is_unmarked marks) (escaped id) ≡ true
    clean id = list_all_each is_line_byte (is_unmarked marks) (λ b is. unmarked_byte marks b stops is) (escaped id) (escaped_is_clean id)

-- the id of a constant, among those of its declaration
pub id_at : (items : List Declaration) (place i : ℕ) → slice_get (ids_at items place) i ≡ id_of_constant items (record { declaration = place; index = i })
id_at items place i = by (slice_get items place)
  where
    by : (o : Option Declaration) → slice_get (unwrap_or (option_map constant_ids o) []) i ≡ option_and_then (λ d. slice_get (constant_ids d) i) o
    by None = refl
    by (Some d) = refl

pub width_is : (items : List Declaration) (place : ℕ) → width_of (widths_of items) place ≡ length (ids_at items place)
width_is [] place = refl
width_is (d ∷ items) zero = refl
width_is (d ∷ items) (suc place) = width_is items place

-- where ids are distinct, those of one declaration stand once
pub constants_once : (items : List Declaration) (place : ℕ) → AreDistinct (names_of items) → StandOnce (ids_at items place)
constants_once items place distinct i j id one two =
    let first = declared_found items distinct id (declared.Constant (record { declaration = place; index = i })) (sym (id_at items place i) ∙ one) in
    let second = declared_found items distinct id (declared.Constant (record { declaration = place; index = j })) (sym (id_at items place j) ∙ two) in
    index_is i j (same_some (declared.Constant (record { declaration = place; index = i })) (declared.Constant (record { declaration = place; index = j })) _ first second)
  where
    index_is : (i j : ℕ) → declared.Constant (record { declaration = place; index = i }) ≡ declared.Constant (record { declaration = place; index = j }) → i ≡ j
    index_is i j same = let refs : record { declaration = place; index = i } ≡ record { declaration = place; index = j } = cc in ap (λ (c : ConstantRef). c.index) refs

-- a constant's text is its escaped id
pub constants_read : (items : List Declaration) (place n : ℕ) (marks b : List ℕ) → n ≡ width_of (widths_of items) place
    → Continues (Closed (IsConstantText items place) marks) b (Closed (Listed (map escaped (ids_at items place)) n) marks) b (λ p. (values.Const p.0, p.1))
constants_read items place n marks b is =
    closed_renamed (IsConstantText items place) (Listed (map escaped (ids_at items place)) n) values.Const marks b to from
  where
    ids : List (List ℕ)
    ids = ids_at items place

    text_at : (i : ℕ) (id : List ℕ) → slice_get ids i ≡ Some id → constant_text items place (out-Value (values.Const i)) ≡ escaped id
    text_at i id got = ap (constant_text items place) (out-const i) ∙ ap id_text (sym (id_at items place i) ∙ got)

    to : (i : ℕ) (t : List ℕ) → Listed (map escaped ids) n i t → IsConstantText items place (values.Const i) t
    to i t h =
        let within : i < length ids = omega (arith, h.0, is, width_is items place) in
        let id = got ids i within in (
          ap (is_constant (width_of (widths_of items) place)) (out-const i) ∙ below i (omega (arith, h.0, is)),
          same_some t (escaped id.0) _ h.1 (slice_get-map escaped ids i ∙ ap (option_map escaped) id.1) ∙ sym (text_at i id.0 id.1),
        )
      where
        below : (i : ℕ) → i < width_of (widths_of items) place → nat_lt i (width_of (widths_of items) place) ≡ true
        below i lt = grind (arith, nat_tests)

    from : (v : Value) (t : List ℕ) → IsConstantText items place v t → (i : ℕ) × (v ≡ values.Const i) × Listed (map escaped ids) n i t
    from v t h =
        let c = constant_is (width_of (widths_of items) place) v h.0 in
        let id = got ids c.0 (omega (arith, c.1, width_is items place)) in (
          c.0,
          c.2,
          (
            omega (arith, c.1, is),
            slice_get-map escaped ids c.0 ∙ ap (option_map escaped) id.1
                ∙ ap Some (sym (h.1 ∙ ap (λ x. constant_text items place (out-Value x)) c.2 ∙ text_at c.0 id.0 id.1)),
          ),
        )

-- ---- an escaped text, byte by byte

-- what is read of an escaped text at the bytes is read of the rest of it at the later bytes
abbrev pub IsReadUpTo : List ℕ → List ℕ → ℕ → List ℕ → Type 0
IsReadUpTo text b i c = Continues (Only (escaped text)) b (Only (escaped (drop i text))) c (λ u. tt)

escaped_from : (text : List ℕ) (i : ℕ) → i < length text → escaped (drop i text) ≡ escape (get_or text i 0) ++ escaped (drop (i + 1) text)
escaped_from text i lt = ap escaped (drop_got text i (get_or text i 0) (got_at text i lt))

pub byte_read : (text b : List ℕ) (i : ℕ) (c d : List ℕ) → i < length text → IsReadUpTo text b i c → IsRead (Only (escape (get_or text i 0))) c tt d → IsReadUpTo text b (i + 1) d
byte_read text b i c d lt so_far f =
    let rest = escaped (drop (i + 1) text) in
    onward (Only (escaped text)) b (Only (escaped (drop i text))) c (λ u. tt) (Only rest) d (λ u. tt) so_far
    (subst (λ t. Continues (Only t) c (Only rest) d (λ u. tt)) (sym (escaped_from text i lt)) (piece_continues (escape (get_or text i 0)) rest c d f))

pub byte_breaks : (text b : List ℕ) (i : ℕ) (c : List ℕ) (left : ℕ) → i < length text → IsReadUpTo text b i c → Broken (Only (escape (get_or text i 0))) c left → Broken (Only (escaped text)) b left
byte_breaks text b i c left lt so_far f =
    so_far.broken left (subst (λ t. Broken (Only t) c left) (sym (escaped_from text i lt)) (piece_breaks (escape (get_or text i 0)) (escaped (drop (i + 1) text)) c left f))

pub text_read : (text b : List ℕ) (i : ℕ) (c : List ℕ) → length text ≤ i → IsReadUpTo text b i c → IsRead (Only (escaped text)) b tt c
text_read text b i c long so_far = so_far.found tt c (subst (λ t. IsRead (Only (escaped t)) c tt c) (sym (past i text long)) (nothing_found c))
  where
    past : (n : ℕ) (xs : List ℕ) → length xs ≤ n → drop n xs ≡ []
    past zero [] le = refl
    past zero (x ∷ xs) le = absurd (omega (arith, le))
    past (suc n) [] le = refl
    past (suc n) (x ∷ xs) le = past n xs (omega (arith, le))

-- ---- how many constants a declaration has

pub size_told : (widths : List ℕ) (place n : ℕ) → sizes.Finite n ≡ capped_size (size_of widths (sorts.Enumeration place)) → n ≤ 4294967295 → n ≡ width_of widths place
size_told widths place n is small =
    let same : length (carrier widths (sorts.Enumeration place)) ≡ width_of widths place = ap length (carrier-enumeration widths place) ∙ length_constants (width_of widths place) in
    step (is ∙ ap (λ o. capped_size o) (finite widths place) ∙ ap (λ m. sizes.Finite (min m (2 ^ 64))) same)
  where
    finite : (widths : List ℕ) (place : ℕ) → size_of widths (sorts.Enumeration place) ≡ Some (length (carrier widths (sorts.Enumeration place)))
    finite widths place = ap (λ t. cond t (Some (length (carrier widths (sorts.Enumeration place)))) None) (finite-enumeration place)

    step : sizes.Finite n ≡ sizes.Finite (min (width_of widths place) (2 ^ 64)) → n ≡ width_of widths place
    step e = let m : n ≡ min (width_of widths place) (2 ^ 64) = cc in omega (arith, m, small)

pub constant_there : (items : List Declaration) (place index width : ℕ) → width ≡ width_of (widths_of items) place → index < width → IsConstant items (record { declaration = place; index = index })
constant_there items place index width is lt = let id = got (ids_at items place) index (omega (arith, lt, is, width_is items place)) in ap is_some (sym (id_at items place index) ∙ id.1)

-- the text of a constant's id, as it is told
pub text_there : (items : List Declaration) (place index : ℕ) (id bytes : List ℕ) → id_of_constant items (record { declaration = place; index = index }) ≡ Some id → bytes ≡ id
    → slice_get (map escaped (ids_at items place)) index ≡ Some (escaped bytes)
text_there items place index id bytes told same =
    slice_get-map escaped (ids_at items place) index ∙ ap (option_map escaped) (id_at items place index ∙ told ∙ ap Some (sym same))

-- a constant that is found by its id, where the id stands at the front
pub constant_found : (items : List Declaration) (place : ℕ) (marks b id : List ℕ) (mark : ℕ) (rest : List ℕ) (c : ConstantRef) → AreDistinct (names_of items) → AreStops marks
    → Unescapes marks id mark rest b → constant_named items id ≡ Some c → c.declaration ≡ place → IsRead (Closed (IsConstantText items place) marks) b (values.Const c.index, mark) rest
constant_found items place marks b id mark rest c distinct stops u named same =
    let is : id_of_constant items c ≡ Some id = found_declared items id (declared.Constant c) (is_such_constant (meaning_of items id) c named) in
    let ids = ids_at items place in
    let here : slice_get ids c.index ≡ Some id = id_at items place c.index ∙ ap (λ d. id_of_constant items (record { declaration = d; index = c.index })) (sym same) ∙ is in
    (constants_read items place (width_of (widths_of items) place) marks b refl).found (c.index, mark) rest
    (listed_at (map escaped ids) (width_of (widths_of items) place) c.index (escaped id) marks b mark rest (apart_ids ids marks stops (constants_once items place distinct))
    (omega (arith, slice_get_within ids c.index id here, width_is items place)) (slice_get-map escaped ids c.index ∙ ap (option_map escaped) here) u.is_mark u.cut)
