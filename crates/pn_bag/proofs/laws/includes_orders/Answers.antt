use Rattle.std.proofs.Common.{arith}
use Rattle.pn_bag.proofs.laws.includes_orders.Goals as goal

pub returns-clause-reflexive : goal.returns-clause-reflexive
returns-clause-reflexive g c = λ xs key. omega arith

pub returns-clause-transitive : goal.returns-clause-transitive
returns-clause-transitive g c = λ xs ys zs more less key. omega (arith, more key, less key)

pub returns-clause-antisymmetric : goal.returns-clause-antisymmetric
returns-clause-antisymmetric g c = λ xs ys more less key. omega (arith, more key, less key)
