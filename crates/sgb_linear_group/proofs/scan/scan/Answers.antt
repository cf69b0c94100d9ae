use Rattle.std.proofs.Common.{◌≡◌, arith}
use Rattle.std.specs.Prelude.{slice_range}
use Rattle.sgb_split.specs.Split.{from, neighbours}
use Rattle.sgb_split.proofs.Questions.Runs.{may_now, may_next}
use Rattle.sgb_split.proofs.Linear.Scanning.{accepted_more, refused_next, accepted_all}
use Rattle.sgb_split.proofs.Linear.ScannedParts.{right_at, neighbours_in, pair_in, pairs_in}
use Rattle.sgb_linear_group.proofs.scan.scan.Goals.{in-Front, in-Back}
use Rattle.sgb_linear_group.proofs.scan.scan.Goals as goal

pub ask-together-requires : goal.ask-together-requires
ask-together-requires g c =
    let i = c.loop-len.invariant in
    let is : c.match-end.right ≡ right_at c.args.end c.args.low c.args.high c.loop-len.len
    = elim c.match-end.branch [ in-Front w ↦ rw w.in-Front.is w.right-is | in-Back w ↦ rw w.in-Back.is w.right-is ] in
    let near = neighbours_in c.args.slice.now c.args.low c.args.high c.requires.inside c.requires.nonempty c.args.end c.loop-len.len i.after
    (omega arith) c.match-end.right is _ _ c.index-slice-right.is c.index-slice-right-in-loop-len.is in
    may_now _ _ _ _ _ i.callable near

pub returns-then-not-together-clause-asked : goal.returns-then-not-together-clause-asked
returns-then-not-together-clause-asked g c =
    let i = c.loop-len.invariant in
    let is : c.match-end.right ≡ right_at c.args.end c.args.low c.args.high c.loop-len.len
    = elim c.match-end.branch [ in-Front w ↦ rw w.in-Front.is w.right-is | in-Back w ↦ rw w.in-Back.is w.right-is ] in
    let near = neighbours_in c.args.slice.now c.args.low c.args.high c.requires.inside c.requires.nonempty c.args.end c.loop-len.len i.after
    (omega arith) c.match-end.right is _ _ c.index-slice-right.is c.index-slice-right-in-loop-len.is in
    let here = pair_in c.args.slice.now c.args.low c.args.high c.requires.inside c.requires.nonempty c.args.end c.loop-len.len i.after
    (omega arith) c.match-end.right is _ _ c.index-slice-right.is c.index-slice-right-in-loop-len.is in
    refused_next _ _ (from c.args.end (neighbours (slice_range c.args.slice.now c.args.low c.args.high))) _ _ _ _ _ i.accepted here
    (may_now _ _ _ _ _ i.callable near) c.if-not-together.ensures c.loop-len.len (omega arith)

pub loop-len-preserved : goal.loop-len-preserved
loop-len-preserved g c =
    let i = c.loop-len.invariant in
    let is : c.match-end.right ≡ right_at c.args.end c.args.low c.args.high c.loop-len.len
    = elim c.match-end.branch [ in-Front w ↦ rw w.in-Front.is w.right-is | in-Back w ↦ rw w.in-Back.is w.right-is ] in
    let near = neighbours_in c.args.slice.now c.args.low c.args.high c.requires.inside c.requires.nonempty c.args.end c.loop-len.len i.after
    (omega arith) c.match-end.right is _ _ c.index-slice-right.is c.index-slice-right-in-loop-len.is in
    let here = pair_in c.args.slice.now c.args.low c.args.high c.requires.inside c.requires.nonempty c.args.end c.loop-len.len i.after
    (omega arith) c.match-end.right is _ _ c.index-slice-right.is c.index-slice-right-in-loop-len.is in
    record {
      after = omega arith;
      upto = omega arith;
      callable = may_next _ _ _ _ _ _ _ i.callable near c.if-not-together.ensures;
      accepted =
          accepted_more _ _ (from c.args.end (neighbours (slice_range c.args.slice.now c.args.low c.args.high))) _ _ _ _ _ i.accepted here
          (may_now _ _ _ _ _ i.callable near) c.if-not-together.ensures _ (omega arith);
    }

pub returns-clause-asked : goal.returns-clause-asked
returns-clause-asked g c =
    accepted_all _ _ (from c.args.end (neighbours (slice_range c.args.slice.now c.args.low c.args.high))) _ _ _ c.loop-len.invariant.accepted
    (omega (arith, pairs_in c.args.slice.now c.args.low c.args.high c.requires.inside c.requires.nonempty c.args.end)) c.loop-len.len (omega arith)
