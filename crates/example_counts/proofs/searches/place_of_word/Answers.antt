use Rattle.std.proofs.Common.{rules}
use Rattle.std.specs.Prelude.{string_bytes}
use Rattle.std.specs.Cmp.Lexicographic.{slice_cmp}
use Rattle.std.specs.Ordering.{nat_cmp}
use Rattle.std.proofs.lemmas.Cmp.{nat_list_cmp_total}
use Rattle.std.proofs.lemmas.Fn.{always_returns_same}
use Rattle.std.proofs.lemmas.List.Sorted.{searchable_from_sorted}
use Rattle.example_counts.proofs.searches.place_of_word.Goals as goal

pub returns : goal.returns
returns c =
    let words = c.args.words.now in
    let word = c.args.word.now in
    c.exponential_search_by.ensures.found (λ w. slice_cmp nat_cmp (string_bytes w) word)
    (c.always_computes.ensures words (λ w. slice_cmp nat_cmp (string_bytes w) word) _
    (always_returns_same _ _ _ (λ a r f' k. search rules)))
    (searchable_from_sorted nat_list_cmp_total string_bytes words word (c.sorts_ascend.ensures.sorted words c.requires))
