use Rattle.std.proofs.Common.{arith}
use Rattle.std.proofs.lemmas.List.{length-reverse}
use Rattle.slice_group_simd.proofs.Known.{front_top, front_bare}
use Rattle.sgb_numbers.proofs.Scanned.{scanned_back_same, scanned_back_cut}
use Rattle.slice_group_simd.proofs.fills.scan_back.Goals as goal

pub returns-then-low-start-clause-mask : goal.returns-then-low-start-clause-mask
returns-then-low-start-clause-mask g c =
    let eq = g.M.Masks.same in
    let xs = c.args.slice.now in
    let laws = g.met.M.Masks.laws in
    let s = c.like_back_by_vectors-start in
    let e = c.index-slice-upto in
    front_top (scanned_back_same eq xs laws e.result s.result c.args.upto e.is s.ensures.high (omega arith) s.ensures.like)
    (scanned_back_cut eq xs laws e.result s.result c.args.upto e.is s.ensures.high (omega arith) s.ensures.like (omega arith)
    (s.ensures.unlike c.if-low-start.true)) (omega arith) (omega arith) (omega arith) (omega (arith, length-reverse xs))

pub returns-else-low-start-clause-mask : goal.returns-else-low-start-clause-mask
returns-else-low-start-clause-mask g c =
    let s = c.like_back_by_vectors-start in
    let e = c.index-slice-upto in
    front_bare (scanned_back_same g.M.Masks.same c.args.slice.now g.met.M.Masks.laws e.result s.result c.args.upto e.is s.ensures.high
    (omega arith) s.ensures.like) (omega arith) (omega arith)
