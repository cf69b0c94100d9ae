use Rattle.std.specs.Prelude.{⊤}
use Rattle.sgb_split.specs.Split.{AreNeighbours, on_pairs}
use Rattle.sgb_split.proofs.Questions.Runs.{answers_by}
use Rattle.slice_group_simd.proofs.mask_groups.MaskGroups.with_judge.Goals as goal

pub returns-clause-settled : goal.returns-clause-settled
returns-clause-settled g c =
    answers_by _ _ (AreNeighbours _) (on_pairs g.J.Masks.same) (λ _. ⊤) (λ s q b k i h. (g.met.J.MaskJudge.only s q b k h, tt)) _ tt
