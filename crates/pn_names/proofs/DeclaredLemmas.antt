-- What an id names is declared, and variables by their places.
use Rattle.std.proofs.Common.{◌≡◌, ℕ, zero, suc, ◌+◌, Bool, true, false, List, [], ◌∷◌, ◌++◌, length, cond, Option, Some, is_some, refl, ap, sym, ◌∙◌, subst, append_assoc, length-append, arith, None, ◌<◌, get_or}
use Rattle.std.specs.List.{slice_get, AllByRecursion}
use Rattle.std.specs.Option.{option_and_then, option_map}
use Rattle.std.specs.Str.{bytes_eq}
use Rattle.std.proofs.lemmas.Slice.Eq.{bytes_eq-Decides}
use Rattle.std.proofs.lemmas.Option.{none-some, same_Some, option_and_then_some, slice_get-get_or}
use Rattle.pn_syntax.specs.declared.declaration.Declaration.{Declaration}
use Rattle.pn_syntax.specs.declared.declaration.Declaration.TheVariants as declarations
use Rattle.pn_values.specs.declared.constant_ref.ConstantRef.{ConstantRef}
use Rattle.pn_ids.proofs.NotingLemmas.{Names}
use Rattle.pn_names.specs.declared.Declared.{Declared}
use Rattle.pn_names.specs.declared.Declared.TheVariants as declared
use Rattle.pn_ids.specs.Names.{named_in, AreDistinct}
use Rattle.pn_names.specs.Names.{id_of, constant_ids, numbered, own_name, with_variable, names_in, names_from, names_of, meaning_of, variables_in, variables_of, variable_of, variable_at, variable_places_from, variable_places_of, Declares, IsConstant, constant_ref, variable_name, Variable}

-- what stands behind a front
pub slice_get_at : {A : Type 0} (front : List A) (x : A) (rest : List A) → slice_get (front ++ x ∷ rest) (length front) ≡ Some x
slice_get_at [] x rest = refl
slice_get_at (y ∷ front) x rest = slice_get_at front x rest

-- what stands in a front
pub slice_get_left : {A : Type 0} (xs ys : List A) (i : ℕ) (x : A) → slice_get xs i ≡ Some x → slice_get (xs ++ ys) i ≡ Some x
slice_get_left [] ys i x h = absurd (none-some x h)
slice_get_left (y ∷ xs) ys zero x h = h
slice_get_left (y ∷ xs) ys (suc i) x h = slice_get_left xs ys i x h

all_append : {A : Type 0} (P : A → Type 0) (xs ys : List A) → AllByRecursion P xs → AllByRecursion P ys → AllByRecursion P (xs ++ ys)
all_append P [] ys f g = g
all_append P (x ∷ xs) ys f g = (f.0, all_append P xs ys f.1 g)

-- what holds of all ids with what they name, holds of what is found
all_named : (P : List ℕ → Declared → Type 0) (ns : Names Declared) → AllByRecursion (λ n. P n.0 n.1) ns → (id : List ℕ) (m : Declared) → named_in ns id ≡ Some m → P id m
all_named P [] f id m h = absurd (none-some m h)
all_named P (n ∷ ns) f id m h = step (bytes_eq id n.0) refl (all_named P ns f.1 id m)
  where
    step : (b : Bool) → bytes_eq id n.0 ≡ b → (named_in ns id ≡ Some m → P id m) → P id m
    step true e later =
        let found = same_Some n.1 m (sym (ap (λ t. cond t (Some n.1) (named_in ns id)) e) ∙ h) in
        subst (λ (v : List ℕ). P v m) (sym ((bytes_eq-Decides id n.0).0 e)) (subst (P n.0) found f.0)
    step false e later = later (sym (ap (λ t. cond t (Some n.1) (named_in ns id)) e) ∙ h)

pub variables-append : (xs ys : List Declaration) → variables_of (xs ++ ys) ≡ variables_of xs ++ variables_of ys
variables-append [] ys = refl
variables-append (d ∷ xs) ys = ap (λ l. variables_in d ++ l) (variables-append xs ys) ∙ sym (append_assoc (variables_in d) (variables_of xs) (variables_of ys))

variables_more : (front : List Declaration) (d : Declaration) → length (variables_of (front ++ d ∷ [])) ≡ with_variable (length (variables_of front)) d
variables_more front d = ap length (variables-append front (d ∷ [])) ∙ length-append (variables_of front) (variables_of (d ∷ [])) ∙ by d
  where
    by : (d : Declaration) → length (variables_of front) + length (variables_of (d ∷ [])) ≡ with_variable (length (variables_of front)) d
    by (declarations.Named id name body at) = omega arith
    by (declarations.Variable id name sort at) = omega arith
    by (declarations.Partition id name sort elements at) = omega arith

-- a declaration declares its own id
own_declared : (front ds : List Declaration) (d : Declaration) → Declares (front ++ d ∷ ds) (id_of d) (own_name (length front) (length (variables_of front)) d)
own_declared front ds (declarations.Named id name body at) = (name, body, at, slice_get_at front (declarations.Named id name body at) ds)
own_declared front ds (declarations.Variable id name sort at) =
    let d = declarations.Variable id name sort at in
    (sort, ap (λ l. slice_get l (length (variables_of front))) (variables-append front (d ∷ ds)) ∙ slice_get_at (variables_of front) (record { id = id; sort = sort }) (variables_of ds))
own_declared front ds (declarations.Partition id name sort elements at) = (name, sort, elements, at, slice_get_at front (declarations.Partition id name sort elements at) ds)

-- and those of its constants
constants_declared : (items : List Declaration) (place : ℕ) (d : Declaration) → slice_get items place ≡ Some d → (front ids : List (List ℕ)) (index : ℕ) → length front ≡ index → front ++ ids ≡ constant_ids d
    → AllByRecursion (λ n. Declares items n.0 n.1) (numbered place index ids)
constants_declared items place d is front [] index at whole = tt
constants_declared items place d is front (id ∷ ids) index at whole = (
  ap (option_and_then (λ (d : Declaration). slice_get (constant_ids d) index)) is ∙ ap (λ l. slice_get l index) (sym whole) ∙ ap (slice_get (front ++ id ∷ ids)) (sym at) ∙ slice_get_at front id ids,
  constants_declared items place d is (front ++ id ∷ []) ids (suc index) (length-append front (id ∷ []) ∙ omega arith) (append_assoc front (id ∷ []) ids ∙ whole),
)

all_declared : (front ds : List Declaration) (place before : ℕ) → length front ≡ place → length (variables_of front) ≡ before → AllByRecursion (λ n. Declares (front ++ ds) n.0 n.1) (names_from place before ds)
all_declared front [] place before at variables = tt
all_declared front (d ∷ ds) place before at variables =
    let own = subst (λ (k : ℕ). Declares (front ++ d ∷ ds) (id_of d) (own_name k before d)) at (subst (λ (k : ℕ). Declares (front ++ d ∷ ds) (id_of d) (own_name (length front) k d)) variables (own_declared front ds d)) in
    let is = ap (slice_get (front ++ d ∷ ds)) (sym at) ∙ slice_get_at front d ds in
    let later = all_declared (front ++ d ∷ []) ds (suc place) (with_variable before d) (length-append front (d ∷ []) ∙ omega arith) (variables_more front d ∙ ap (λ (k : ℕ). with_variable k d) variables) in
    all_append (λ n. Declares (front ++ d ∷ ds) n.0 n.1) (names_in place before d) (names_from (suc place) (with_variable before d) ds)
    (own, constants_declared (front ++ d ∷ ds) place d is [] (constant_ids d) 0 refl refl)
    (subst (λ (l : List Declaration). AllByRecursion (λ n. Declares l n.0 n.1) (names_from (suc place) (with_variable before d) ds)) (append_assoc front (d ∷ []) ds) later)

-- what an id names is declared
pub found_declared : (items : List Declaration) (id : List ℕ) (m : Declared) → meaning_of items id ≡ Some m → Declares items id m
found_declared items = all_named (Declares items) (names_of items) (all_declared [] items 0 0 refl refl)

variables_at : (front ds : List Declaration) (place : ℕ) → length front ≡ place → (v : ℕ) → slice_get (variables_of ds) v ≡ option_and_then (variable_at (front ++ ds)) (slice_get (variable_places_from place ds) v)
variables_at front [] place here v = refl
variables_at front (d ∷ ds) place here v = step d refl v
    (λ (w : ℕ). subst (λ (l : List Declaration). slice_get (variables_of ds) w ≡ option_and_then (variable_at l) (slice_get (variable_places_from (suc place) ds) w)) (append_assoc front (d ∷ []) ds)
    (variables_at (front ++ d ∷ []) ds (suc place) (length-append front (d ∷ []) ∙ omega arith) w))
  where
    step : (e : Declaration) → d ≡ e → (v : ℕ) → ((w : ℕ) → slice_get (variables_of ds) w ≡ option_and_then (variable_at (front ++ d ∷ ds)) (slice_get (variable_places_from (suc place) ds) w))
        → slice_get (variables_of (e ∷ ds)) v ≡ option_and_then (variable_at (front ++ d ∷ ds)) (slice_get (variable_places_from place (e ∷ ds)) v)
    step (declarations.Named id name body at) is v later = later v
    step (declarations.Variable id name sort at) is zero later =
        sym (ap (option_and_then variable_of) (ap (slice_get (front ++ d ∷ ds)) (sym here) ∙ slice_get_at front d ds) ∙ ap variable_of is)
    step (declarations.Variable id name sort at) is (suc v) later = later v
    step (declarations.Partition id name sort elements at) is v later = later v

-- the variable of each number is the one that the declaration at its place declares
pub variable_declared : (items : List Declaration) (v : ℕ) → slice_get (variables_of items) v ≡ option_and_then (variable_at items) (slice_get (variable_places_of items) v)
variable_declared items = variables_at [] items 0 refl

places_length : (ds : List Declaration) (place : ℕ) → length (variable_places_from place ds) ≡ length (variables_of ds)
places_length [] place = refl
places_length (declarations.Named id name body at ∷ ds) place = places_length ds (suc place)
places_length (declarations.Variable id name sort at ∷ ds) place = ap suc (places_length ds (suc place))
places_length (declarations.Partition id name sort elements at ∷ ds) place = places_length ds (suc place)

pub as_many_places : (items : List Declaration) → length (variable_places_of items) ≡ length (variables_of items)
as_many_places items = places_length items 0

-- an id with what it names stands among these
abbrev IsAmong : Names Declared → List ℕ → Declared → Type 0
IsAmong ns id m = (i : ℕ) × (slice_get ns i ≡ Some (id, m))

stands_left : (xs ys : Names Declared) (id : List ℕ) (m : Declared) → IsAmong xs id m → IsAmong (xs ++ ys) id m
stands_left xs ys id m s = (s.0, slice_get_left xs ys s.0 (id, m) s.1)

stands_right : (xs ys : Names Declared) (id : List ℕ) (m : Declared) → IsAmong ys id m → IsAmong (xs ++ ys) id m
stands_right [] ys id m s = s
stands_right (x ∷ xs) ys id m s = let t = stands_right xs ys id m s in (suc t.0, t.1)

-- of distinct ids, one that stands there is found
named_standing : (ns : Names Declared) (i : ℕ) (id : List ℕ) (m : Declared) → AreDistinct ns → slice_get ns i ≡ Some (id, m) → named_in ns id ≡ Some m
named_standing [] i id m d h = absurd (none-some (id, m) h)
named_standing (n ∷ ns) zero id m d h =
    let parts = same_Some n (id, m) h in
    let same : bytes_eq id n.0 ≡ true = (bytes_eq-Decides id n.0).1 (sym (ap (λ (p : List ℕ × Declared). p.0) parts)) in
    ap (λ t. cond t (Some n.1) (named_in ns id)) same ∙ ap (λ (p : List ℕ × Declared). Some p.1) parts
named_standing (n ∷ ns) (suc i) id m d h = step (bytes_eq id n.0) refl (named_standing ns i id m d.1 h)
  where
    step : (b : Bool) → bytes_eq id n.0 ≡ b → named_in ns id ≡ Some m → cond (bytes_eq id n.0) (Some n.1) (named_in ns id) ≡ Some m
    step true e later = absurd (none-some m (sym (subst (λ (v : List ℕ). named_in ns v ≡ None) (sym ((bytes_eq-Decides id n.0).0 e)) d.0) ∙ later))
    step false e later = ap (λ t. cond t (Some n.1) (named_in ns id)) e ∙ later

constant_stands : (place : ℕ) (ids : List (List ℕ)) (index k : ℕ) (id : List ℕ) → slice_get ids k ≡ Some id → IsAmong (numbered place index ids) id (declared.Constant (record { declaration = place; index = index + k }))
constant_stands place [] index k id h = absurd (none-some id h)
constant_stands place (x ∷ ids) index zero id h =
    (0, ap (λ (v : List ℕ). Some (v, declared.Constant (record { declaration = place; index = index }))) (same_Some x id h) ∙ ap (λ (j : ℕ). Some (id, declared.Constant (record { declaration = place; index = j }))) (omega arith))
constant_stands place (x ∷ ids) index (suc k) id h =
    let t = constant_stands place ids (suc index) k id h in
    (suc t.0, t.1 ∙ ap (λ (j : ℕ). Some (id, declared.Constant (record { declaration = place; index = j }))) (omega arith))

-- what a declaration declares at its place stands among the names of all
at_place : (ds : List Declaration) (start before k place : ℕ) (d : Declaration) (id : List ℕ) (m : Declared) → start + k ≡ place → slice_get ds k ≡ Some d → ((b : ℕ) → IsAmong (names_in place b d) id m)
    → IsAmong (names_from start before ds) id m
at_place [] start before k place d id m here h f = absurd (none-some d h)
at_place (e ∷ ds) start before zero place d id m here h f =
    let same : place ≡ start = omega arith in
    stands_left (names_in start before e) (names_from (suc start) (with_variable before e) ds) id m
    (subst (λ (p : ℕ). IsAmong (names_in p before e) id m) same (subst (λ (x : Declaration). IsAmong (names_in place before x) id m) (sym (same_Some e d h)) (f before)))
at_place (e ∷ ds) start before (suc k) place d id m here h f =
    stands_right (names_in start before e) (names_from (suc start) (with_variable before e) ds) id m (at_place ds (suc start) (with_variable before e) k place d id m (omega arith) h f)

variable_stands : (ds : List Declaration) (start before v : ℕ) (x : Variable) → slice_get (variables_of ds) v ≡ Some x → IsAmong (names_from start before ds) x.id (declared.Variable (before + v))
variable_stands [] start before v x h = absurd (none-some x h)
variable_stands (declarations.Named id name body at ∷ ds) start before v x h =
    stands_right (names_in start before (declarations.Named id name body at)) (names_from (suc start) before ds) x.id (declared.Variable (before + v)) (variable_stands ds (suc start) before v x h)
variable_stands (declarations.Variable id name sort at ∷ ds) start before zero x h =
    (0, ap (λ (y : Variable). Some (y.id, declared.Variable before)) (same_Some (record { id = id; sort = sort }) x h) ∙ ap (λ (j : ℕ). Some (x.id, declared.Variable j)) (omega arith))
variable_stands (declarations.Variable id name sort at ∷ ds) start before (suc v) x h =
    stands_right (names_in start before (declarations.Variable id name sort at)) (names_from (suc start) (suc before) ds) x.id (declared.Variable (before + suc v))
    (subst (λ (j : ℕ). IsAmong (names_from (suc start) (suc before) ds) x.id (declared.Variable j)) (omega arith) (variable_stands ds (suc start) (suc before) v x h))
variable_stands (declarations.Partition id name sort elements at ∷ ds) start before v x h =
    stands_right (names_in start before (declarations.Partition id name sort elements at)) (names_from (suc start) before ds) x.id (declared.Variable (before + v)) (variable_stands ds (suc start) before v x h)

declared_stands : (items : List Declaration) (id : List ℕ) (m : Declared) → Declares items id m → IsAmong (names_of items) id m
declared_stands items id (declared.Named place) d = at_place items 0 0 place place (declarations.Named id d.0 d.1 d.2) id (declared.Named place) (omega arith) d.3 (λ b. (0, refl))
declared_stands items id (declared.Partition place) d = at_place items 0 0 place place (declarations.Partition id d.0 d.1 d.2 d.3) id (declared.Partition place) (omega arith) d.4 (λ b. (0, refl))
declared_stands items id (declared.Variable number) d =
    subst (λ (j : ℕ). IsAmong (names_of items) id (declared.Variable j)) (omega arith) (variable_stands items 0 0 number (record { id = id; sort = d.0 }) d.1)
declared_stands items id (declared.Constant c) h =
    option_and_then_some (λ (d : Declaration). slice_get (constant_ids d) c.index) (slice_get items c.declaration) id h
    (λ d there at. at_place items 0 0 c.declaration c.declaration d id (declared.Constant c) (omega arith) there (λ b.
    let t = constant_stands c.declaration (constant_ids d) 0 c.index id at in
    (suc t.0, t.1 ∙ ap (λ (j : ℕ). Some (id, declared.Constant (record { declaration = c.declaration; index = j }))) (omega arith))))

-- of distinct ids, what is declared is found
pub declared_found : (items : List Declaration) → AreDistinct (names_of items) → (id : List ℕ) (m : Declared) → Declares items id m → meaning_of items id ≡ Some m
declared_found items distinct id m d = let t = declared_stands items id m d in named_standing (names_of items) t.0 id m distinct t.1

-- the declaration of a variable
name_of_variable : (d : Declaration) (x : Variable) → variable_of d ≡ Some x → x.id ≡ id_of d
name_of_variable (declarations.Named id name body at) x h = absurd (none-some x h)
name_of_variable (declarations.Variable id name sort at) x h = ap (λ (y : Variable). y.id) (sym (same_Some (record { id = id; sort = sort }) x h))
name_of_variable (declarations.Partition id name sort elements at) x h = absurd (none-some x h)

there_is : {A : Type 0} (xs : List A) (i : ℕ) → i < length xs → (x : A) × (slice_get xs i ≡ Some x)
there_is [] i lt = absurd (omega arith)
there_is (x ∷ xs) zero lt = (x, refl)
there_is (x ∷ xs) (suc i) lt = there_is xs i (omega arith)

pub variable_found : (items : List Declaration) (places : List ℕ) (v : ℕ) → places ≡ variable_places_of items → v < length (variables_of items)
    → (d : Declaration) × (slice_get items (get_or places v 0) ≡ Some d) × (option_map variable_name (slice_get (variables_of items) v) ≡ Some (id_of d))
variable_found items places v is lt =
    let x = there_is (variables_of items) v lt in
    let at = ap (λ l. slice_get l v) (sym is) ∙ slice_get-get_or places v 0 (omega (arith, ap length is, as_many_places items)) in
    let declares = sym (ap (option_and_then (variable_at items)) at) ∙ sym (variable_declared items v) ∙ x.1 in
    option_and_then_some variable_of (slice_get items (get_or places v 0)) x.0 declares
    (λ d there of. (d, there, ap (option_map variable_name) x.1 ∙ ap Some (name_of_variable d x.0 of)))

pub constant_is : (o : Option Declared) (c : ConstantRef) → option_and_then constant_ref o ≡ Some c → o ≡ Some (declared.Constant c)
constant_is None c h = absurd (none-some c h)
constant_is (Some (declared.Named place)) c h = absurd (none-some c h)
constant_is (Some (declared.Partition place)) c h = absurd (none-some c h)
constant_is (Some (declared.Variable number)) c h = absurd (none-some c h)
constant_is (Some (declared.Constant d)) c h = ap (λ e. Some (declared.Constant e)) (same_Some d c h)

-- a constant that is found is there
pub constant_there : (items : List Declaration) (names : Names Declared) (id : List ℕ) (c : ConstantRef) → names ≡ names_of items → Some c ≡ option_and_then constant_ref (named_in names id) → IsConstant items c
constant_there items names id c same h =
    let is = found_declared items id (declared.Constant c) (constant_is (named_in (names_of items) id) c (ap (λ (ns : Names Declared). option_and_then constant_ref (named_in ns id)) (sym same) ∙ sym h)) in
    ap is_some is
