-- Plans of questions that find how long the first piece of a grouped slice is, by comparing its first element with others.
--     run plan l            what the plan answers where the piece has l elements, and after how many questions
use Rattle.std.specs.Prelude.{◌≡◌, ℕ, ◌+◌, ◌-◌, ◌≤◌, ◌⊎◌, ◌≢◌, cond, nat_lt}
use Rattle.slice_group_by.specs.declared.laws.plans.Plan.{Plan}
use Rattle.slice_group_by.specs.declared.laws.plans.Plan.TheVariants.{Answer, Ask'}
use Rattle.sgb_search.specs.Searching.{digits}

-- what the plan answers, and after how many questions: the element at place q agrees with the first exactly if q < l
abbrev pub run : Plan → ℕ → ℕ × ℕ
run (Answer a) l = (a, 0)
run (Ask' q _ more _ less) l = (cond (nat_lt q l) (run more l).0 (run less l).0, cond (nat_lt q l) (run more l).1 (run less l).1 + 1)

-- the plan answers each length from low up to high rightly
abbrev pub IsRight : Plan → ℕ → ℕ → Type 0
IsRight plan low high = (l : ℕ) → low ≤ l → l ≤ high → (run plan l).0 ≡ l

-- where the piece has l of at most n elements, the plan is wrong, or asks no less than halving may
abbrev pub IsRefuted : Plan → ℕ → ℕ → Type 0
IsRefuted plan n l = ((run plan l).0 ≢ l) ⊎ (digits (n - 1) ≤ (run plan l).1)
