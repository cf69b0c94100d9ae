use Rattle.std.proofs.Common.{◌≡◌, length}
use Rattle.std.specs.Str.Iter.{chars_rest}
use Rattle.sgb_linear_str_group.proofs.Scanned.{Scanned}
use Rattle.sgb_linear_str_group.proofs.scan.split_by_characters.Given as goal

abbrev pub invariant-loop-beyond : goal.invariant-loop-beyond
invariant-loop-beyond g l =
    Scanned g.J.Judge l.end l.text l.initial.judge l.rest l.innermost l.judge × (chars_rest l.characters ≡ l.rest)

abbrev pub decreases-loop-beyond : goal.decreases-loop-beyond
decreases-loop-beyond g l = length l.rest
