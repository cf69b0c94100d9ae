use Rattle.std.proofs.Common.{◌<◌, ◌≤◌, sym, ap, ◌∙◌, arith, length, rules}
use Rattle.grouped_report.proofs.Adding.{add_none, added_both, added_one}
use Rattle.grouped_report.proofs.summary.add_amounts.Goals as goal
use Rattle.grouped_report.proofs.summary.add_amounts.Goals.{then-i-len+in_ok-sums, else-i-len+in_ok-push}

pub loop-i-init : goal.loop-i-init
loop-i-init c = sym (add_none c.args.sums.now.items)

pub loop-i-preserved : goal.loop-i-preserved
loop-i-preserved c =
    let xs = c.args.sums.now.items in
    let ys = c.args.amounts.now in
    let now = c.loop-i.sums.items in
    let i = c.loop-i.i in
    let more : i < length ys = omega arith in
    elim c.if-i-len.branch [
      | then-i-len+in_ok-sums w ↦
          let l : i < length now = search rules in
          added_both xs ys now _ i _ _ c.loop-i.invariant l more w.index.ensures w.in_ok-sums.ensures (ap (λ v. v.items) w.sums-is)
      | else-i-len+in_ok-push w ↦
          let l : length now ≤ i = search rules in
          added_one xs ys now _ i c.loop-i.invariant l more (ap (λ v. v.items) w.sums-is ∙ w.in_ok-push.ensures.items)
    ]
