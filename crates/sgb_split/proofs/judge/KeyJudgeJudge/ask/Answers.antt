use Rattle.std.proofs.Common.{refl}
use Rattle.sgb_split.proofs.judge.KeyJudgeJudge.ask.Goals as goal

pub func-second_key-requires : goal.func-second_key-requires
func-second_key-requires g c = c.requires.1 _ _ (record { shown = c.args.first; shows = refl; called = c.func-first_key.ensures }) _ refl

pub returns : goal.returns
returns g c = record {
  state_between = _;
  first_key = _;
  second_key = _;
  first_call = record { shown = c.args.first; shows = refl; called = c.func-first_key.ensures };
  second_call = record { shown = c.args.second; shows = refl; called = c.func-second_key.ensures };
  compared = c.eq.ensures;
}
