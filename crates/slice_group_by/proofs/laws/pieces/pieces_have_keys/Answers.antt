use Rattle.slice_group_by.proofs.Pieces.PiecesOfLists.{firsts, begin_as, as_many, by_keys, keys_copied, keys_once, piece_alike}
use Rattle.slice_group_by.proofs.laws.pieces.pieces_have_keys.Goals as goal

pub returns-clause-firsts : goal.returns-clause-firsts
returns-clause-firsts g c key = firsts _ (by_keys g.K.PartialEq.eq g.met.K.PartialEq.laws key)

pub returns-clause-count : goal.returns-clause-count
returns-clause-count g c key = as_many _ (by_keys g.K.PartialEq.eq g.met.K.PartialEq.laws key)

pub returns-clause-begin : goal.returns-clause-begin
returns-clause-begin g c key = begin_as _ (by_keys g.K.PartialEq.eq g.met.K.PartialEq.laws key)

pub returns-clause-keys : goal.returns-clause-keys
returns-clause-keys g c = keys_once g.K.PartialEq.eq

pub returns-clause-one : goal.returns-clause-one
returns-clause-one g c equal key = keys_copied g.K.PartialEq.eq key equal

pub returns-clause-alike : goal.returns-clause-alike
returns-clause-alike g c same key =
    piece_alike _ (by_keys g.K.PartialEq.eq g.met.K.PartialEq.laws key) (λ x. same (key x))
