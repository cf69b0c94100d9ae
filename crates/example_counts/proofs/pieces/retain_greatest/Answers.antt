use Rattle.std.proofs.Common.{◌≡◌, length, take, drop, rules, ap, ◌∙◌}
use Rattle.std.proofs.Math.Seq.{take-append_seam}
use Rattle.example_counts.proofs.pieces.retain_greatest.Goals as goal

-- a vector that was passed as a slice holds the slice that comes back, since that is as long
pub returns : goal.returns
returns c =
    let back = c.keep_greatest-kept.new.rows in
    let old = c.args.rows.now.items in
    let whole : length back ≡ c.args.rows.now.len = search rules in
    let items : c.truncate.new.self.items ≡ take c.keep_greatest-kept.result back =
    c.truncate.ensures.items ∙ ap (take c.keep_greatest-kept.result) (rw (← whole) (take-append_seam back (drop (length back) old))) in
    rw (items, ← c.deref_mut.ensures.value) c.keep_greatest-kept.ensures
