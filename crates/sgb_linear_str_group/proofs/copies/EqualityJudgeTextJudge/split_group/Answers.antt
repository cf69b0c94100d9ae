use Rattle.std.proofs.Common.{rules, arith, ◌≡◌, ◌<◌, [], length, sym}
use Rattle.std.proofs.lemmas.List.{nil_from_length}
use Rattle.std.proofs.lemmas.Bool.{eqb-true, eqb-false}
use Rattle.sgb_linear_str_group.specs.Copies.{outermost_byte}
use Rattle.sgb_linear_str_group.proofs.AsciiCopies.{found_last, found_before_another}
use Rattle.sgb_linear_str_group.proofs.copies.EqualityJudgeTextJudge.split_group.Goals as goal
use Rattle.sgb_linear_str_group.proofs.copies.EqualityJudgeTextJudge.split_group.Goals.{then-is_empty, else-is_empty}

pub returns : goal.returns
returns c =
    let ascii : outermost_byte c.args.end c.args.text.now < 128 = search rules in
    elim c.if-is_empty.branch [
      | then-is_empty w ↦
          let none : c.split_copies.result.1.now ≡ [] = nil_from_length _ (eqb-true _ _ (sym w.if-is_empty.ensures)) in
          found_last c.args.end c.args.text.now _ _ c.args.self.now c.count.new.judge c.utf8.text ascii c.requires
          c.split_copies.ensures none (rw w.questions-is at c.count.ensures)
      | else-is_empty w ↦
          let some : 0 < length c.split_copies.result.1.now =
          let differs = eqb-false _ _ (sym w.if-is_empty.ensures) in omega (arith, differs) in
          found_before_another c.args.end c.args.text.now _ _ c.args.self.now c.count.new.judge c.utf8.text ascii c.requires
          c.split_copies.ensures some (rw w.questions-is at c.count.ensures)
    ]
