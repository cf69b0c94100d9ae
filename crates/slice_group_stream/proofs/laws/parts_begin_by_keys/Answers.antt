use Rattle.slice_group_stream.proofs.JoinedParts as joined
use Rattle.sgb_split.specs.Split.{last}
use Rattle.slice_group_stream.proofs.laws.parts_begin_by_keys.Goals as goal

pub returns-clause-begins : goal.returns-clause-begins
returns-clause-begins g c k eq before block = joined.keys_begin k eq (last before) block

pub returns-clause-kept : goal.returns-clause-kept
returns-clause-kept g c k before block = joined.keys_kept k before block
