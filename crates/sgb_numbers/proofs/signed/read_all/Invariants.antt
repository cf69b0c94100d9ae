use Rattle.std.proofs.Common.{ℕ, ◌<◌, ◌≤◌, get_or}
use Rattle.sgb_numbers.proofs.signed.read_all.Given as goal

abbrev pub invariant-loop-place : goal.invariant-loop-place
invariant-loop-place g l = (k : ℕ) (d : g.row.T.Denot) → l.from ≤ k → k < l.place → g.T.Signed.fits (get_or l.slice k d)
