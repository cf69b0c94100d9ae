use Rattle.std.proofs.Common.{length}
use Rattle.example_counts.proofs.parts.+lens_by_halves.Given as goal

abbrev pub decreases-lens_by_halves : goal.decreases-lens_by_halves
decreases-lens_by_halves l = length l.slice.now
