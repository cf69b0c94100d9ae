use Rattle.std.proofs.Common.{sym, ap, ◌∙◌, drop, arith}
use Rattle.sgb_groups.proofs.Cuts.{part_is, part_behind}
use Rattle.sgb_groups.proofs.groups.SliceGroups.skip_front.Goals as goal

pub returns-in-Some-clause-remainder : goal.returns-in-Some-clause-remainder
returns-in-Some-clause-remainder g c =
    let s = c.args.self.now in
    let xs = s.slice.now in
    let p = c.in-Some.ensures in
    rw (c.min.ensures, p.0, p.1)
    (part_is xs _ s.high (omega (arith, p)) (omega (arith, p))
    ∙ part_behind xs s.low s.high c.args.len (omega (arith, p)) (omega (arith, p))
    ∙ ap (drop c.args.len) (sym (part_is xs s.low s.high (omega (arith, p)) (omega (arith, p)))))
