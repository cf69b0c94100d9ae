-- The shards of a slice: parts that end where groups end.
--     AreShards p count xs shards   at most `count` parts, one at least, which have the groups of the whole
--     GivesShard asks s shard t     what `next` gives
use Rattle.std.specs.Prelude.{◌≡◌, ◌≢◌, ℕ, ◌-◌, ◌/◌, ◌≤◌, Bool, List, [], ◌++◌, length, drop, flat_map, max, Option, MatchOption}
use Rattle.std.specs.List.{AllByRecursion}
use Rattle.std.specs.Borrow.{Bor}
use Rattle.sgb_split.specs.Calls.{Groups, IsGroupAt}
use Rattle.sgb_split.specs.Split.{concat, split}
use Rattle.sgb_split.specs.declared.end.End.{End}
use Rattle.sgb_split.specs.declared.end.End.TheVariants.{Front}
use Rattle.sgb_groups.specs.Gives.{groups_of}
use Rattle.sgb_groups.specs.declared.shards.Shards.{Shards}

-- the parts, none of them empty, joined are the list, their groups are its groups, and there are no more than `count`, or 1
pub record AreShards {T : Type 0} (p : T → T → Bool) (count : ℕ) (xs : List T) (shards : List (List T)) : Type 0 where
  pub covers : concat shards ≡ xs
  pub groups : flat_map (split p) shards ≡ split p xs
  pub nonempty : AllByRecursion (λ shard. shard ≢ []) shards
  pub few : length shards ≤ max count 1

-- what is still to be cut, and into how many shards
abbrev pub groups_to_cut : {T J W : Type 0} → Shards T J W → Groups T J
groups_to_cut s = groups_of s.groups

abbrev pub shards_left : {T J W : Type 0} → Shards T J W → ℕ
shards_left s = s.count

-- the place of the last element of the share that the first of so many shards has
abbrev pub share_end : {T : Type 0} → ℕ → List T → ℕ
share_end count xs = (length xs - 1) / max count 1

module _ {T J : Type 0} (asks : End → List T → ℕ → J → J → Type 0) where
  -- the shard ends with the group of the element at this place, as far as one call takes it that begins there
  pub record CutsShard (place : ℕ) (s : Groups T J) (shard : List T) (t : Groups T J) : Type 0 where
    pub cut : s.remainder ≡ shard ++ t.remainder
    pub call : IsGroupAt asks Front (record { remainder = drop place s.remainder; judge = s.judge }) (drop place shard) t

  abbrev pub GivesShard : {W : Type 0} → Shards T J W → Option (Bor (List T)) → Shards T J W → Type 0
  GivesShard s shard t =
      MatchOption shard (((groups_to_cut s).remainder ≡ []) × (t ≡ s))
      (λ x. CutsShard (share_end (shards_left s) (groups_to_cut s).remainder) (groups_to_cut s) x.now (groups_to_cut t)
      × (shards_left t ≡ shards_left s - 1))
