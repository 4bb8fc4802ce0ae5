-- What texts in a document may be: numbers, truth values, ids, types of nets.
use Rattle.std.specs.Prelude.{ℕ, ℤ, pos, neg_ℤ, ◌-◌, ◌^◌, Bool, true, false, not, ◌&&◌, ◌==◌, nat_le, nat_lt, List, [], ◌∷◌, take, drop, codes, Option, None, Some, if◌then◌else◌}
use Rattle.std.specs.List.{list_all, prefix_len}
use Rattle.std.specs.Option.{option_map, option_or}
use Rattle.std.specs.Char.{is_ascii_digit}
use Rattle.std.specs.Str.{bytes_eq}
use Rattle.std.specs.Str.Parse.{digits_value}
use Rattle.pn_markup.specs.Bytes.{is_space}
use Rattle.pn_operators.specs.declared.kind.Kind.{Kind}
use Rattle.pn_operators.specs.declared.kind.Kind.TheVariants as kind

-- white space alone
abbrev pub is_blank : List ℕ → Bool
is_blank bs = list_all is_space bs

-- not empty, and without white space
abbrev pub may_be_id : List ℕ → Bool
may_be_id [] = false
may_be_id (b ∷ bs) = list_all (λ c. not (is_space c)) (b ∷ bs)

-- what stands behind the white space at the front
abbrev pub behind_space : List ℕ → List ℕ
behind_space bs = drop (prefix_len is_space bs) bs

-- the number that these digits write, where it is not above `most`
abbrev pub digits_up_to : ℕ → List ℕ → Option ℕ
digits_up_to most ds = if nat_le (digits_value 10 ds) most then Some (digits_value 10 ds) else None

-- the number that so many digits at the front write, where there is a digit, and white space alone behind them
abbrev pub front_number : ℕ → ℕ → List ℕ → Option ℕ
front_number most many bs = if nat_lt 0 many && is_blank (drop many bs) then digits_up_to most (take many bs) else None

-- the number that all digits at the front write
abbrev pub numeral_in : ℕ → List ℕ → Option ℕ
numeral_in most bs = front_number most (prefix_len is_ascii_digit bs) bs

-- a number of tokens: ASCII digits with white space around, from 0 to 2^63 - 1
abbrev pub count_in : List ℕ → Option ℕ
count_in bs = numeral_in (2 ^ 63 - 1) (behind_space bs)

-- the digits of a whole number, perhaps behind a minus
abbrev pub signed_in : List ℕ → Option ℤ
signed_in [] = None
signed_in (b ∷ bs) = if b == 45 then option_map (λ n. neg_ℤ (pos n)) (numeral_in (2 ^ 63) bs) else option_map pos (numeral_in (2 ^ 63 - 1) (b ∷ bs))

-- a whole number: the same with an optional minus before the digits, from -2^63 to 2^63 - 1
abbrev pub number_in : List ℕ → Option ℤ
number_in bs = signed_in (behind_space bs)

-- `true` or `false`
abbrev pub truth_in : List ℕ → Option Bool
truth_in bs = if bytes_eq bs (codes "true") then Some true else (if bytes_eq bs (codes "false") then Some false else None)

-- the namespace of PNML
abbrev pub namespace : List ℕ
namespace = codes "http://www.pnml.org/version-2009/grammar/pnml"

-- the type of the nets of a kind
abbrev pub address_of : Kind → List ℕ
address_of kind.PtNet = codes "http://www.pnml.org/version-2009/grammar/ptnet"
address_of kind.Symmetric = codes "http://www.pnml.org/version-2009/grammar/symmetricnet"
address_of kind.HighLevel = codes "http://www.pnml.org/version-2009/grammar/highlevelnet"

abbrev pub kind_at : Kind → List ℕ → Option Kind
kind_at k bs = if bytes_eq bs (address_of k) then Some k else None

-- the kind of the nets of a type
abbrev pub net_kind : List ℕ → Option Kind
net_kind bs = option_or (kind_at kind.PtNet bs) (option_or (kind_at kind.Symmetric bs) (kind_at kind.HighLevel bs))
