use Rattle.std.proofs.Common.{ℕ, [], ◌∷◌, ◌++◌, append-nil, refl}
use Rattle.std.proofs.KnownBytes.{Appends-nil}
use Rattle.std.proofs.lemmas.List.Concat.{flat_map-append}
use Rattle.std.proofs.lemmas.Option.{IfSome_then}
use Rattle.program_parts.proofs.Appended.{appends_both, appends_kept}
use Rattle.program_parts.proofs.RecordsGiven.{all_said, more_said, none_more_said, none_said}
use Rattle.run_length_coder.specs.Coding.{Decodes, copies, run_in, runs_format}
use Rattle.run_length_coder.proofs.Decoding.{decodes_coded}
use Rattle.run_length_coder.proofs.decoder.decode.Goals as goal

pub loop-init : goal.loop-init
loop-init g c = ([], Appends-nil _, none_said run_in g.R.Read.remaining runs_format _ _ c.in_ok-records.ensures)

pub returns-in_default-clause-any : goal.returns-in_default-clause-any
returns-in_default-clause-any g c =
    let (runs, writes, s) = c.loop.invariant in
    let next = c.in_ok-is_row.ensures in
    let given = rw c.in_default.is at (next.given _ s.rows s.given) in
    let said = rw append-nil at (more_said run_in _ _ _ runs c.loop.records c.next.new.self [] s given next.none_left_out next.width []
    refl refl) in
    IfSome_then _
    {Q = λ bytes. Decodes bytes c.in_ok-are_runs.are_runs (g.W.Write.contents c.args.out.now) (g.W.Write.contents c.flush.new.self)}
    (all_said run_in _ _ _ runs _ c.in_ok-are_runs.are_runs said (next.end c.in_default.is) c.in_ok-are_runs.ensures)
    (λ bytes reads. record { runs = runs; reads = reads; writes = appends_kept _ _ _ _ writes c.flush.ensures.bytes })

pub returns-in_default-clause-again : goal.returns-in_default-clause-again
returns-in_default-clause-again g c bytes small few known =
    let all = rw known at (returns-in_default-clause-any g c) in
    decodes_coded bytes _ _ _ small few all

pub loop-preserved-then-not-is_row : goal.loop-preserved-then-not-is_row
loop-preserved-then-not-is_row g c =
    let (runs, writes, s) = c.loop.invariant in
    let next = c.in_ok-is_row.ensures in
    let given = rw (c.in-Some.is, c.if-not-is_row.true) at (next.given _ s.rows s.given) in (
      runs,
      writes,
      rw append-nil at (more_said run_in _ _ _ runs c.loop.records c.next.new.self [] s given next.none_left_out next.width [] refl refl),
    )

pub loop-preserved-in-Ok : goal.loop-preserved-in-Ok
loop-preserved-in-Ok g c =
    let (runs, writes, s) = c.loop.invariant in
    let next = c.in_ok-is_row.ensures in
    let given = rw (c.in-Some.is, c.if-not-is_row.false) at (next.given _ s.rows s.given) in
    let says = rw c.row.ensures at c.in-Ok.ensures.says in
    let run : ℕ × ℕ = (c.in-Ok.run'.byte, c.in-Ok.run'.count) in (
      runs ++ run ∷ [],
      rw (flat_map-append copies runs (run ∷ []), append-nil (copies run))
          (appends_both _ _ _ _ _ writes c.in_ok-write_bytes-in-Ok.ensures),
      more_said run_in _ _ _ runs c.loop.records c.next.new.self _ s given next.none_left_out next.width (run ∷ []) (rw says refl) refl,
    )

pub loop-preserved : goal.loop-preserved
loop-preserved g c =
    let (runs, writes, s) = c.loop.invariant in
    let next = c.in_ok-is_row.ensures in
    let given = rw (c.in-Some.is, c.if-not-is_row.false) at (next.given _ s.rows s.given) in
    let silent = rw c.row.ensures at c.in-Err.ensures.silent in
    let out = c.leave_out.ensures in (
      runs,
      writes,
      none_more_said run_in _ _ _ runs c.loop.records c.next.new.self _ s given next.none_left_out next.width c.leave_out.new.self
          (rw silent refl) out.left out.width out.count,
    )
