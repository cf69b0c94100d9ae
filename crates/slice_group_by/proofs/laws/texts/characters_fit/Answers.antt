use Rattle.slice_group_by.proofs.Pieces.TextParts.{length-chars}
use Rattle.slice_group_by.proofs.laws.texts.characters_fit.Goals as goal

pub returns : goal.returns
returns c = length-chars
