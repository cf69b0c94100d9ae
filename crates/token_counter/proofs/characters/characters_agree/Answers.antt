use Rattle.token_counter.proofs.BytesOfCharacters.{bytes_agree}
use Rattle.token_counter.proofs.characters.characters_agree.Goals as goal

pub returns : goal.returns
returns c class bytes h = bytes_agree c.class_counts_add_up.ensures.step class bytes h
