use Rattle.std.proofs.Common.{arith}
use Rattle.slice_group_simd.proofs.Known.{front_top, front_bare}
use Rattle.sgb_numbers.proofs.Scanned.{scanned_same, scanned_cut}
use Rattle.slice_group_simd.proofs.fills.scan_front.Goals as goal

pub returns-then-end-high-clause-mask : goal.returns-then-end-high-clause-mask
returns-then-end-high-clause-mask g c =
    let eq = g.M.Masks.same in
    let xs = c.args.slice.now in
    let laws = g.met.M.Masks.laws in
    let s = c.like_by_vectors-end in
    let e = c.index-slice-from in
    front_top (scanned_same eq xs laws e.result c.args.from s.result e.is s.ensures.low (omega arith) s.ensures.like)
    (scanned_cut eq xs laws e.result c.args.from s.result e.is s.ensures.low (omega arith) s.ensures.like (omega arith)
    (s.ensures.unlike c.if-end-high.true)) (omega arith) (omega arith) (omega arith) (omega arith)

pub returns-else-end-high-clause-mask : goal.returns-else-end-high-clause-mask
returns-else-end-high-clause-mask g c =
    let s = c.like_by_vectors-end in
    let e = c.index-slice-from in
    front_bare (scanned_same g.M.Masks.same c.args.slice.now g.met.M.Masks.laws e.result c.args.from s.result e.is s.ensures.low
    (omega arith) s.ensures.like) (omega arith) (omega arith)
