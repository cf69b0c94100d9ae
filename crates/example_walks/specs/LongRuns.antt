-- The runs of equal bytes that are long, each with its length.
use Rattle.std.specs.Prelude.{ℕ, ◌+◌, ◌-◌, ◌^◌, List, [], ◌∷◌, length, min, nat_lt, not, Option, None, Some, option_map}
use Rattle.std.specs.List.{filter}
use Rattle.std.specs.Option.{option_to_list}

-- the element of a run, and its length, at most the greatest number of 64 bits
abbrev pub run : List ℕ → Option (ℕ × ℕ)
run [] = None
run (x ∷ xs) = Some (x, min (1 + length xs) (2 ^ 64 - 1))

-- a run that goes on
abbrev pub longer : Option (ℕ × ℕ) → List ℕ → Option (ℕ × ℕ)
longer r part = option_map (λ q. (q.0, min (q.1 + length part) (2 ^ 64 - 1))) r

-- a run, if it is long
abbrev pub long : ℕ → Option (ℕ × ℕ) → List (ℕ × ℕ)
long least r = filter (λ q. not (nat_lt q.1 least)) (option_to_list r)
