use Rattle.pn_sorts.proofs.MemberLemmas.{enumeration_member, partition_member}
use Rattle.pn_sorts.proofs.laws.members_are_declared.Goals as goal

pub returns-clause-enumeration : goal.returns-clause-enumeration
returns-clause-enumeration c = enumeration_member

pub returns-clause-partition : goal.returns-clause-partition
returns-clause-partition c = partition_member
