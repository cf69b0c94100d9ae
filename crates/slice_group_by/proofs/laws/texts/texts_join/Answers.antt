use Rattle.slice_group_by.proofs.Pieces.TextParts.{chain_utf8, encoded}
use Rattle.slice_group_by.proofs.Queues.Chains.{chain_parts}
use Rattle.slice_group_by.proofs.Queues.Yields.{yields_parts, drains_parts}
use Rattle.slice_group_by.proofs.laws.texts.texts_join.Goals as goal

pub returns-clause-encodings : goal.returns-clause-encodings
returns-clause-encodings g c s t ends out chain =
    encoded g.S.OfText.bytes out (chain_utf8 g.S.GroupQueue.gives g.S.OfText.bytes g.met.S.OfText.utf8 s ends out t chain)

pub returns-clause-calls : goal.returns-clause-calls
returns-clause-calls g c s t ends out = chain_parts g.S.GroupQueue.gives g.S.OfText.text g.S.OfText.bytes g.met.S.OfText.cuts s ends out t

pub returns-clause-part : goal.returns-clause-part
returns-clause-part g c = yields_parts g.S.GroupQueue.gives g.S.OfText.text g.S.OfText.bytes g.met.S.OfText.cuts

pub returns-clause-whole : goal.returns-clause-whole
returns-clause-whole g c = drains_parts g.S.GroupQueue.gives g.S.OfText.text g.S.OfText.bytes g.met.S.OfText.cuts
