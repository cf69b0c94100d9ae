use Rattle.std.proofs.Common.{arith, refl}
use Rattle.test_cases.proofs.definitions.group_cases.Goals as goal

pub returns-clause-apart : goal.returns-clause-apart
returns-clause-apart c h = let all = (h.at 0 2 1 1 (omega arith) refl refl).0.0 refl in cc all.0
