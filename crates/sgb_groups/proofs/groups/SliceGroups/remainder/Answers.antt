use Rattle.std.proofs.Common.{sym, arith}
use Rattle.sgb_groups.proofs.Cuts.{part_is}
use Rattle.sgb_groups.proofs.groups.SliceGroups.remainder.Goals as goal

pub returns-in-Some : goal.returns-in-Some
returns-in-Some g c =
    let s = c.args.self.now in
    let p = c.in-Some.ensures in
    rw (p.0, p.1) (sym (part_is s.slice.now s.low s.high (omega (arith, p)) (omega (arith, p))))
