use Rattle.sgb_split.proofs.judge.CharKeyJudgeJudgeChar.ask.Goals as goal

pub func-first_key-requires : goal.func-first_key-requires
func-first_key-requires g c = c.requires.0

pub func-second_key-requires : goal.func-second_key-requires
func-second_key-requires g c = c.requires.1 _ _ c.func-first_key.ensures

pub returns : goal.returns
returns g c = record {
  state_between = _;
  first_key = _;
  second_key = _;
  first_call = c.func-first_key.ensures;
  second_call = c.func-second_key.ensures;
  compared = c.eq.ensures;
}
