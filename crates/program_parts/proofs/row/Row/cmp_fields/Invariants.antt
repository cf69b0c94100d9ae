use Rattle.std.proofs.Common.{◌≡◌, drop}
use Rattle.program_parts.specs.Rows.{key_cmp}
use Rattle.program_parts.proofs.row.Row.cmp_fields.Given as goal

abbrev pub invariant-loop-place : goal.invariant-loop-place
invariant-loop-place l = key_cmp (drop l.place l.self.key) (drop l.place l.other.key) ≡ key_cmp l.self.key l.other.key
