-- Runs of equal elements.
use Rattle.std.specs.Prelude.{ℕ, ◌+◌, ◌-◌, ◌^◌, List, length, min}

-- the element of a run, of which it has one and others, and its length, at most the greatest number of 64 bits
abbrev pub run_of : {T : Type 0} → T → List T → T × ℕ
run_of x others = (x, min (1 + length others) (2 ^ 64 - 1))

-- a run that goes on with a part
abbrev pub longer_run : {T : Type 0} → T × ℕ → List T → T × ℕ
longer_run run part = (run.0, min (run.1 + length part) (2 ^ 64 - 1))
