-- Members of single sorts, and what is read from them.
use Rattle.std.proofs.Common.{◌≡◌, ℕ, suc, ◌<◌, ℤ, int_le, Bool, true, ◌&&◌, List, [], ◌∷◌, length, map, refl, sym, ap, ◌∙◌, arith}
use Rattle.std.proofs.lemmas.Bool.{false≢true}
use Rattle.std.proofs.lemmas.Bool.Decides.{nat_tests}
use Rattle.std.specs.List.{list_all}
use Rattle.pn_text.specs.Characters.{is_text}
use Rattle.pn_values.specs.declared.sort.Sort.{Sort}
use Rattle.pn_values.specs.declared.sort.Sort.TheOpen as sort_layer
use Rattle.pn_values.specs.declared.sort.Sort.TheVariants as sorts
use Rattle.pn_values.specs.declared.sort.Sort.TheVariants.{rolls-Dot, rolls-Bool, rolls-Integer, rolls-Text, rolls-List}
use Rattle.pn_values.specs.declared.sort.Sort.TheViews.{roll-Sort}
use Rattle.pn_values.specs.declared.sort.Sort.TheFolds.{fold-roll-Sort, map-Sort}
use Rattle.pn_values.specs.declared.value.Value.{Value}
use Rattle.pn_values.specs.declared.value.Value.TheOpen as layer
use Rattle.pn_values.specs.declared.value.Value.TheVariants as values
use Rattle.pn_values.specs.declared.value.Value.TheVariants.{rolls-List as rolls-list-value, rolls-Text as rolls-text-value}
use Rattle.pn_values.specs.declared.value.Value.TheViews.{out-Value, out-roll-Value}
use Rattle.pn_carriers.specs.Members.{IsMember, is_dot, is_truth, is_constant, is_between, is_document_text, is_list_of, least_number, greatest_number, is_member_layer, is_member, pass_each}
use Rattle.pn_carriers.proofs.ValueLemmas.{out-dot, out-bool, out-int}
use Rattle.pn_facts.proofs.Truths.{and_right}
use Rattle.pn_operations.specs.Outcomes.{place_of, text_of, items_of}

of_layer : (widths : List ℕ) (s : Sort) (x : sort_layer.Sort-F Sort) (v : Value) → roll-Sort x ≡ s
    → is_member widths s v ≡ is_member_layer widths (map-Sort Sort (Value → Bool) (is_member widths) x) (out-Value v)
of_layer widths s x v e =
    ap (λ sort. is_member widths sort v) (sym e) ∙ ap (λ (test : Value → Bool). test v) (fold-roll-Sort (Value → Bool) (λ sort v. is_member_layer widths sort (out-Value v)) x)

pub dot_member : (widths : List ℕ) → IsMember widths values.Dot sorts.Dot
dot_member widths = of_layer widths sorts.Dot sort_layer.Dot values.Dot rolls-Dot ∙ ap is_dot out-dot

pub truth_member : (widths : List ℕ) (b : Bool) → IsMember widths (values.Bool b) sorts.Bool
truth_member widths b = of_layer widths sorts.Bool sort_layer.Bool (values.Bool b) rolls-Bool ∙ ap is_truth (out-bool b)

pub number_member : (widths : List ℕ) (number : ℤ) → (int_le least_number number && int_le number greatest_number) ≡ true → IsMember widths (values.Int number) sorts.Integer
number_member widths number h = of_layer widths sorts.Integer sort_layer.Integer (values.Int number) rolls-Integer ∙ ap (is_between least_number greatest_number) (out-int number) ∙ h

pub member_is_text : (widths : List ℕ) (v : Value) → is_member widths sorts.Text v ≡ is_document_text (out-Value v)
member_is_text widths v = of_layer widths sorts.Text sort_layer.Text v rolls-Text

pub member_is_list : (widths : List ℕ) (item : Sort) (v : Value) → is_member widths (sorts.List item) v ≡ is_list_of (is_member widths item) (out-Value v)
member_is_list widths item v = of_layer widths (sorts.List item) (sort_layer.List item) v (rolls-List item)

pub list_member_is : (widths : List ℕ) (item : Sort) (items : List Value) → list_all (is_member widths item) items ≡ true → IsMember widths (values.List items) (sorts.List item)
list_member_is widths item items h =
    member_is_list widths item (values.List items) ∙ ap (is_list_of (is_member widths item)) (ap out-Value (sym (rolls-list-value items)) ∙ out-roll-Value (layer.List items)) ∙ h

-- ---- what is read from members

pub place_below : (width : ℕ) (x : layer.Value-F Value) → is_constant width x ≡ true → place_of x < width
place_below width layer.Dot h = absurd (false≢true h)
place_below width (layer.Bool b) h = absurd (false≢true h)
place_below width (layer.Const c) h = grind (arith, nat_tests)
place_below width (layer.Int z) h = absurd (false≢true h)
place_below width (layer.Text t) h = absurd (false≢true h)
place_below width (layer.Tuple vs) h = absurd (false≢true h)
place_below width (layer.List vs) h = absurd (false≢true h)

pub text_good : (x : layer.Value-F Value) → is_document_text x ≡ true → is_text (text_of x) ≡ true
text_good layer.Dot h = absurd (false≢true h)
text_good (layer.Bool b) h = absurd (false≢true h)
text_good (layer.Const c) h = absurd (false≢true h)
text_good (layer.Int z) h = absurd (false≢true h)
text_good (layer.Text t) h = h
text_good (layer.Tuple vs) h = absurd (false≢true h)
text_good (layer.List vs) h = absurd (false≢true h)

pub items_pass : (test : Value → Bool) (x : layer.Value-F Value) → is_list_of test x ≡ true → list_all test (items_of x) ≡ true
items_pass test layer.Dot h = absurd (false≢true h)
items_pass test (layer.Bool b) h = absurd (false≢true h)
items_pass test (layer.Const c) h = absurd (false≢true h)
items_pass test (layer.Int z) h = absurd (false≢true h)
items_pass test (layer.Text t) h = absurd (false≢true h)
items_pass test (layer.Tuple vs) h = absurd (false≢true h)
items_pass test (layer.List vs) h = h

pub out_text_value : (t : List ℕ) → out-Value (values.Text t) ≡ layer.Text t
out_text_value t = ap out-Value (sym (rolls-text-value t)) ∙ out-roll-Value (layer.Text t)

pub out_list_value : (vs : List Value) → out-Value (values.List vs) ≡ layer.List vs
out_list_value vs = ap out-Value (sym (rolls-list-value vs)) ∙ out-roll-Value (layer.List vs)

-- a tuple has as many parts as its sort
pub as_many : (test : Sort → Value → Bool) (parts : List Sort) (vs : List Value) → pass_each (map test parts) vs ≡ true → length parts ≡ length vs
as_many test [] [] is = refl
as_many test [] (v ∷ vs) is = absurd (false≢true is)
as_many test (part ∷ parts) [] is = absurd (false≢true is)
as_many test (part ∷ parts) (v ∷ vs) is = ap suc (as_many test parts vs (and_right (test part v) (pass_each (map test parts) vs) is))
