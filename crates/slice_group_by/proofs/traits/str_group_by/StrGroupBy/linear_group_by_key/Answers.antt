use Rattle.std.proofs.Common.{rules}
use Rattle.slice_group_by.proofs.traits.str_group_by.StrGroupBy.linear_group_by_key.Goals as goal

pub new-requires : goal.new-requires
new-requires g c = rw c.as_str.ensures c.requires

pub returns-clause-text : goal.returns-clause-text
returns-clause-text g c = search rules
