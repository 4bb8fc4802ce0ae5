-- The row of an operator stands at the place of the operator in their order.
use Rattle.std.proofs.Common.{◌≡◌, refl, sym, ◌∙◌, ap, subst, ℕ, zero, suc, List, [], ◌∷◌, map, length, nat_lt, true, slice_index_or, arith}
use Rattle.std.proofs.Math.ListN.{get_or-map}
use Rattle.std.specs.List.{AllByRecursion}
use denote.Enum.Declared.{tag_of}
use Rattle.pn_operators.specs.contracts.op.Op.{the_type}
use Rattle.pn_operators.specs.declared.op.Op.{Op}
use Rattle.pn_operators.specs.declared.op.Op.TheVariants as op
use Rattle.pn_operators.specs.declared.row.OpRow.{OpRow}
use Rattle.pn_operators.specs.Rows.{all_operators, TellsOf, IsTable}

-- each operator stands at its place, whatever is beyond the last
at_its_place : (o other : Op) → slice_index_or all_operators (tag_of the_type o) other ≡ o
at_its_place op.DotConstant other = refl
at_its_place _ other = refl

within_all : (o : Op) → nat_lt (tag_of the_type o) (length all_operators) ≡ true
within_all op.DotConstant = refl
within_all _ = refl

pub row_at : (rows : List OpRow) → IsTable rows → (o : Op) (other : OpRow) → (slice_index_or rows (tag_of the_type o) other).op ≡ o
row_at rows table o other =
    sym (get_or-map (λ row. row.op) rows (tag_of the_type o) other)
    ∙ ap (λ os. slice_index_or os (tag_of the_type o) other.op) table.whole
    ∙ at_its_place o other.op

tells_at : (rows : List OpRow) (i : ℕ) (other : OpRow) → AllByRecursion TellsOf rows → nat_lt i (length rows) ≡ true → TellsOf (slice_index_or rows i other)
tells_at [] i other all lt = absurd (let bad : nat_lt i 0 ≡ true = lt in grind arith)
tells_at (row ∷ rows) zero other (tells, more) lt = tells
tells_at (row ∷ rows) (suc i) other (tells, more) lt = tells_at rows i other more (grind arith)

length_of : (rows : List OpRow) → length (map (λ row. row.op) rows) ≡ length rows
length_of [] = refl
length_of (row ∷ rows) = ap suc (length_of rows)

pub row_tells : (rows : List OpRow) → IsTable rows → (o : Op) (other : OpRow) → TellsOf (slice_index_or rows (tag_of the_type o) other)
row_tells rows table o other =
    let same : length all_operators ≡ length rows = ap length (sym table.whole) ∙ length_of rows in
    tells_at rows (tag_of the_type o) other table.tells (subst (λ n. nat_lt (tag_of the_type o) n ≡ true) same (within_all o))
