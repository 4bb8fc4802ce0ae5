-- The words, the number and the phase of each reason.
use Rattle.std.specs.Prelude.{ℕ, List, codes, nat_le, if◌then◌else◌}
use Rattle.pn_faults.specs.declared.reason.Reason.{Reason}
use Rattle.pn_faults.specs.declared.reason.Reason.TheVariants as reason

-- the words that name a reason
abbrev pub words_of : Reason → List ℕ
words_of reason.UnknownElement = codes "unknown element"
words_of reason.SecondNet = codes "second net"
words_of reason.RepeatedElement = codes "repeated element"
words_of reason.MissingElement = codes "missing element"
words_of reason.WrongNamespace = codes "wrong namespace"
words_of reason.UnknownAttribute = codes "unknown attribute"
words_of reason.MissingAttribute = codes "missing attribute"
words_of reason.StrayText = codes "stray text"
words_of reason.WrongNetType = codes "wrong net type"
words_of reason.BadId = codes "bad id"
words_of reason.BadNumber = codes "bad number"
words_of reason.BadValue = codes "bad value"
words_of reason.DuplicateId = codes "duplicate id"
words_of reason.UnknownEnd = codes "unknown end"
words_of reason.WrongEnd = codes "wrong end"
words_of reason.ReferenceCycle = codes "reference cycle"
words_of reason.UnknownSort = codes "unknown sort"
words_of reason.SortCycle = codes "sort cycle"
words_of reason.SortTooBig = codes "sort too big"
words_of reason.EmptyRange = codes "empty range"
words_of reason.BadPartition = codes "bad partition"
words_of reason.UnknownVariable = codes "unknown variable"
words_of reason.UnknownOperator = codes "unknown operator"
words_of reason.UnknownPartition = codes "unknown partition"
words_of reason.BadConstant = codes "bad constant"
words_of reason.AllTooLarge = codes "all too large"
words_of reason.WrongSort = codes "wrong sort"
words_of reason.LabelSort = codes "label sort"
words_of reason.NotGround = codes "not ground"
words_of reason.NoValue = codes "no value"

-- the number of a reason: its place among the reasons as they are written, from 1
abbrev pub number_of : Reason → ℕ
number_of reason.UnknownElement = 1
number_of reason.SecondNet = 2
number_of reason.RepeatedElement = 3
number_of reason.MissingElement = 4
number_of reason.WrongNamespace = 5
number_of reason.UnknownAttribute = 6
number_of reason.MissingAttribute = 7
number_of reason.StrayText = 8
number_of reason.WrongNetType = 9
number_of reason.BadId = 10
number_of reason.BadNumber = 11
number_of reason.BadValue = 12
number_of reason.DuplicateId = 13
number_of reason.UnknownEnd = 14
number_of reason.WrongEnd = 15
number_of reason.ReferenceCycle = 16
number_of reason.UnknownSort = 17
number_of reason.SortCycle = 18
number_of reason.SortTooBig = 19
number_of reason.EmptyRange = 20
number_of reason.BadPartition = 21
number_of reason.UnknownVariable = 22
number_of reason.UnknownOperator = 23
number_of reason.UnknownPartition = 24
number_of reason.BadConstant = 25
number_of reason.AllTooLarge = 26
number_of reason.WrongSort = 27
number_of reason.LabelSort = 28
number_of reason.NotGround = 29
number_of reason.NoValue = 30

-- the phase in which a reason is looked for: 1 the shape, 2 ids and links, 3 sorts, 4 typing
abbrev pub phase_of : Reason → ℕ
phase_of r =
    if nat_le (number_of r) 12 then 1 else (if nat_le (number_of r) 16 then 2 else (if nat_le (number_of r) 21 then 3 else 4))
