use Rattle.std.proofs.Common.{◌<◌, length, Some, sym, ap, ◌∙◌, rules}
use Rattle.slice_group_simd.proofs.Beginnings.{class_after-last}
use Rattle.slice_group_simd.proofs.class_counts.class_after.Goals as goal

pub returns : goal.returns
returns c =
    let some : 0 < length c.args.bytes.now = search rules in
    ap Some c.class.ensures ∙ sym (class_after-last c.args.before c.args.bytes.now some)
