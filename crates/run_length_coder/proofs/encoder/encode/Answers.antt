use Rattle.std.proofs.lemmas.Grind.{common_steps}
use Rattle.std.proofs.Common.{◌≡◌, [], append-nil, arith}
use Rattle.program_parts.proofs.Appended.{appends_kept}
use Rattle.std.specs.Io.KnownBytes.{Appends}
use Rattle.std.proofs.KnownBytes.{Consumes-trans, Consumes-whole}
use Rattle.run_length_coder.specs.Coding.{coded}
use Rattle.run_length_coder.proofs.CodedRuns.{Written-coded}
use Rattle.run_length_coder.proofs.encoder.encode.Goals as goal

pub loop-preserved : goal.loop-preserved
loop-preserved g c =
    let (bytes, read, kept, written, room) = c.loop.invariant in
    let same : c.deref.result.now ≡ c.read_block.new.buffer = grind (arith, common_steps) in
    let step = c.in_ok-byte.ensures _ bytes kept written in
    (_, Consumes-trans _ _ _ _ _ read c.in_ok-len.ensures.bytes.0, rw same at step.0, rw same at step.1, room)

pub returns-then-len-eq0 : goal.returns-then-len-eq0
returns-then-len-eq0 g c =
    let (bytes, read, kept, so_far, room) = c.loop.invariant in
    let (block, end) = c.in_ok-len.ensures.bytes in
    let none = c.if-len-eq0.true in
    Consumes-whole _ _ bytes (λ l. Appends (g.W.Write.contents c.args.out.now) (g.W.Write.contents c.flush.new.self) (coded l))
    (rw append-nil at (Consumes-trans _ _ _ bytes [] read (rw none at block))) (end none (omega (arith, room)))
    (appends_kept _ _ _ _ (Written-coded _ _ _ bytes _ _ so_far c.in_ok-write_run.ensures) c.flush.ensures.bytes)
