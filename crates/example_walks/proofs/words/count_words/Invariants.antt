use Rattle.std.proofs.Common.{◌≡◌, ◌-◌, ◌^◌, flat_map, min, take}
use Rattle.std.specs.List.{count_by}
use Rattle.slice_group_by.specs.Split.{last, split}
use Rattle.slice_group_stream.specs.Streams.{kept_of}
use Rattle.example_walks.specs.Words.{are_letters, is_word}
use Rattle.example_walks.proofs.words.count_words.Given as goal

abbrev pub invariant-loop-block : goal.invariant-loop-block
invariant-loop-block l =
    let came = flat_map (λ block. block.now) (take l.block-index l.blocks) in
    (kept_of l.stream ≡ last came)
    × (l.words ≡ min (count_by is_word (split are_letters came)) (2 ^ 64 - 1))
