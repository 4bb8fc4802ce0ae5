-- Values by their variants.
use Rattle.std.proofs.Common.{◌≡◌, ℕ, ◌<◌, Bool, true, ◌&&◌, List, ℤ, int_le, refl, sym, ap, ◌∙◌, arith}
use Rattle.std.proofs.lemmas.Bool.{false≢true}
use Rattle.std.proofs.lemmas.Bool.Decides.{nat_tests}
use Rattle.pn_values.specs.declared.value.Value.{Value}
use Rattle.pn_values.specs.declared.value.Value.TheOpen as layer
use Rattle.pn_values.specs.declared.value.Value.TheVariants as values
use Rattle.pn_values.specs.declared.value.Value.TheVariants.{rolls-Dot, rolls-Bool, rolls-Const, rolls-Int, rolls-Tuple}
use Rattle.pn_values.specs.declared.value.Value.TheViews.{out-Value, roll-Value, out-roll-Value, roll-out-Value}
use Rattle.pn_carriers.specs.Members.{is_dot, is_truth, is_constant, is_between, pass_each, is_tuple_of}

of_layer : (v : Value) (x : layer.Value-F Value) → out-Value v ≡ x → v ≡ roll-Value x
of_layer v x is = sym (roll-out-Value v) ∙ ap roll-Value is

pub out-dot : out-Value values.Dot ≡ layer.Dot
out-dot = ap out-Value (sym rolls-Dot) ∙ out-roll-Value layer.Dot

pub out-bool : (b : Bool) → out-Value (values.Bool b) ≡ layer.Bool b
out-bool b = ap out-Value (sym (rolls-Bool b)) ∙ out-roll-Value (layer.Bool b)

pub out-const : (c : ℕ) → out-Value (values.Const c) ≡ layer.Const c
out-const c = ap out-Value (sym (rolls-Const c)) ∙ out-roll-Value (layer.Const c)

pub out-int : (z : ℤ) → out-Value (values.Int z) ≡ layer.Int z
out-int z = ap out-Value (sym (rolls-Int z)) ∙ out-roll-Value (layer.Int z)

pub out-tuple : (vs : List Value) → out-Value (values.Tuple vs) ≡ layer.Tuple vs
out-tuple vs = ap out-Value (sym (rolls-Tuple vs)) ∙ out-roll-Value (layer.Tuple vs)

dot_is_at : (v : Value) (x : layer.Value-F Value) → out-Value v ≡ x → is_dot x ≡ true → v ≡ values.Dot
dot_is_at v layer.Dot is h = of_layer v layer.Dot is ∙ rolls-Dot
dot_is_at v (layer.Bool b) is h = absurd (false≢true h)
dot_is_at v (layer.Const c) is h = absurd (false≢true h)
dot_is_at v (layer.Int z) is h = absurd (false≢true h)
dot_is_at v (layer.Text t) is h = absurd (false≢true h)
dot_is_at v (layer.Tuple vs) is h = absurd (false≢true h)
dot_is_at v (layer.List vs) is h = absurd (false≢true h)

pub dot_is : (v : Value) → is_dot (out-Value v) ≡ true → v ≡ values.Dot
dot_is v h = dot_is_at v (out-Value v) refl h

truth_is_at : (v : Value) (x : layer.Value-F Value) → out-Value v ≡ x → is_truth x ≡ true → (b : Bool) × (v ≡ values.Bool b)
truth_is_at v layer.Dot is h = absurd (false≢true h)
truth_is_at v (layer.Bool b) is h = (b, of_layer v (layer.Bool b) is ∙ rolls-Bool b)
truth_is_at v (layer.Const c) is h = absurd (false≢true h)
truth_is_at v (layer.Int z) is h = absurd (false≢true h)
truth_is_at v (layer.Text t) is h = absurd (false≢true h)
truth_is_at v (layer.Tuple vs) is h = absurd (false≢true h)
truth_is_at v (layer.List vs) is h = absurd (false≢true h)

pub truth_is : (v : Value) → is_truth (out-Value v) ≡ true → (b : Bool) × (v ≡ values.Bool b)
truth_is v h = truth_is_at v (out-Value v) refl h

constant_is_at : (width : ℕ) (v : Value) (x : layer.Value-F Value) → out-Value v ≡ x → is_constant width x ≡ true → (c : ℕ) × (c < width) × (v ≡ values.Const c)
constant_is_at width v layer.Dot is h = absurd (false≢true h)
constant_is_at width v (layer.Bool b) is h = absurd (false≢true h)
constant_is_at width v (layer.Const c) is h = (c, grind (arith, nat_tests), of_layer v (layer.Const c) is ∙ rolls-Const c)
constant_is_at width v (layer.Int z) is h = absurd (false≢true h)
constant_is_at width v (layer.Text t) is h = absurd (false≢true h)
constant_is_at width v (layer.Tuple vs) is h = absurd (false≢true h)
constant_is_at width v (layer.List vs) is h = absurd (false≢true h)

pub constant_is : (width : ℕ) (v : Value) → is_constant width (out-Value v) ≡ true → (c : ℕ) × (c < width) × (v ≡ values.Const c)
constant_is width v h = constant_is_at width v (out-Value v) refl h

number_is_at : (start end : ℤ) (v : Value) (x : layer.Value-F Value) → out-Value v ≡ x → is_between start end x ≡ true → (z : ℤ) × ((int_le start z && int_le z end) ≡ true) × (v ≡ values.Int z)
number_is_at start end v layer.Dot is h = absurd (false≢true h)
number_is_at start end v (layer.Bool b) is h = absurd (false≢true h)
number_is_at start end v (layer.Const c) is h = absurd (false≢true h)
number_is_at start end v (layer.Int z) is h = (z, h, of_layer v (layer.Int z) is ∙ rolls-Int z)
number_is_at start end v (layer.Text t) is h = absurd (false≢true h)
number_is_at start end v (layer.Tuple vs) is h = absurd (false≢true h)
number_is_at start end v (layer.List vs) is h = absurd (false≢true h)

pub number_is : (start end : ℤ) (v : Value) → is_between start end (out-Value v) ≡ true → (z : ℤ) × ((int_le start z && int_le z end) ≡ true) × (v ≡ values.Int z)
number_is start end v h = number_is_at start end v (out-Value v) refl h

tuple_is_at : (tests : List (Value → Bool)) (v : Value) (x : layer.Value-F Value) → out-Value v ≡ x → is_tuple_of tests x ≡ true → (vs : List Value) × (pass_each tests vs ≡ true) × (v ≡ values.Tuple vs)
tuple_is_at tests v layer.Dot is h = absurd (false≢true h)
tuple_is_at tests v (layer.Bool b) is h = absurd (false≢true h)
tuple_is_at tests v (layer.Const c) is h = absurd (false≢true h)
tuple_is_at tests v (layer.Int z) is h = absurd (false≢true h)
tuple_is_at tests v (layer.Text t) is h = absurd (false≢true h)
tuple_is_at tests v (layer.Tuple vs) is h = (vs, h, of_layer v (layer.Tuple vs) is ∙ rolls-Tuple vs)
tuple_is_at tests v (layer.List vs) is h = absurd (false≢true h)

pub tuple_is : (tests : List (Value → Bool)) (v : Value) → is_tuple_of tests (out-Value v) ≡ true → (vs : List Value) × (pass_each tests vs ≡ true) × (v ≡ values.Tuple vs)
tuple_is tests v h = tuple_is_at tests v (out-Value v) refl h

pub same_tuple : (us ws : List Value) → values.Tuple us ≡ values.Tuple ws → us ≡ ws
same_tuple us ws h = let out : layer.Tuple us ≡ layer.Tuple ws = sym (out-tuple us) ∙ ap out-Value h ∙ out-tuple ws in cc

pub same_number : (x y : ℤ) → values.Int x ≡ values.Int y → x ≡ y
same_number x y h = let out : layer.Int x ≡ layer.Int y = sym (out-int x) ∙ ap out-Value h ∙ out-int y in cc

pub same_constant : (x y : ℕ) → values.Const x ≡ values.Const y → x ≡ y
same_constant x y h = let out : layer.Const x ≡ layer.Const y = sym (out-const x) ∙ ap out-Value h ∙ out-const y in cc

pub same_truth : (x y : Bool) → values.Bool x ≡ values.Bool y → x ≡ y
same_truth x y h = let out : layer.Bool x ≡ layer.Bool y = sym (out-bool x) ∙ ap out-Value h ∙ out-bool y in cc
