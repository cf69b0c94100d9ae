use Rattle.sgb_search.proofs.Searches.Digits.{digits_above, digits_least}
use Rattle.sgb_split.proofs.Splits.FirstPiece.{first_agrees}
use Rattle.slice_group_by.proofs.Questions.Adversary.{right_plan_asks}
use Rattle.slice_group_by.proofs.laws.plans.right_plans_ask.Goals as goal

pub returns-clause-most : goal.returns-clause-most
returns-clause-most g c = right_plan_asks

pub returns-clause-above : goal.returns-clause-above
returns-clause-above g c = digits_above

pub returns-clause-least : goal.returns-clause-least
returns-clause-least g c = digits_least

pub returns-clause-agrees : goal.returns-clause-agrees
returns-clause-agrees g c = first_agrees
