-- Which piece a call at the front of linear groups of equal elements, or of equal characters of a text, gives: a lemma that a caller's
-- proof search can be told to use.
use Rattle.std.proofs.Common.{◌≡◌, Bool, List, ◌∷◌, Some}
use Rattle.sgb_split.specs.declared.end.End.TheVariants.{Front}
use Rattle.sgb_split.specs.Split.{AreNeighbours, split}
use Rattle.sgb_split.specs.declared.judge.EqualityJudge.{EqualityJudge}
use Rattle.sgb_split.specs.Calls.{IsGroupAt}
use Rattle.sgb_split.specs.Judges.{by_equality}
use Rattle.sgb_split.proofs.Questions.Equality.{equality_settled}
use Rattle.sgb_split.specs.Linear.{LinearQuestions}
use Rattle.sgb_split.proofs.Linear.LinearQueue.{piece}
use Rattle.slice_group_by.proofs.Queues.Chains.{piece_and_others}

module _ {T : Type 0} (eq : T → T → Bool) (xs x ys : List T) (j k : EqualityJudge) where
  -- the group is the first piece of the split, and the split of the rest is the others
  pub equal_piece : IsGroupAt (LinearQuestions (by_equality eq)) Front (record { remainder = xs; judge = j }) x
      (record { remainder = ys; judge = k })
      → split eq xs ≡ x ∷ split eq ys
  equal_piece h = piece_and_others Front eq xs x ys
      (piece (by_equality eq) Front (record { remainder = xs; judge = j }) (Some x) (record { remainder = ys; judge = k }) eq h
      (equality_settled eq (AreNeighbours xs) j)).0
