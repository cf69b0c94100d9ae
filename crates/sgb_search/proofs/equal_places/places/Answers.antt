use Rattle.std.proofs.Common.{◌≡◌, ℕ, ◌+◌, ◌-◌, ◌≤◌, List, ◌++◌, length, take, drop, refl, subst, sym, ap, ◌∙◌, arith}
use Rattle.std.specs.Prelude.{slice_range}
use Rattle.std.proofs.lemmas.List.{take-append-drop, length-take-le}
use Rattle.std.specs.List.{Contains}
use Rattle.std.proofs.lemmas.List.Elements.{Contains-append_right}
use Rattle.sgb_search.specs.Searching.{as_ordering}
use Rattle.sgb_search.specs.Search.{IsLocalBoundary}
use Rattle.sgb_search.specs.Ranges.{AsksPartition}
use Rattle.sgb_split.proofs.Questions.OnElements.{callable_on_fewer, computes_on_fewer}
use Rattle.sgb_search.proofs.Searches.SearchRuns.{may_go_on, answers_go_on}
use Rattle.sgb_search.proofs.equal_places.places.Goals as goal

-- a list that is split at the place n
module _ {T : Type 0} (xs front rest : List T) (n : ℕ) (taken : front ≡ take n xs) (left : rest ≡ drop n xs) where
  joined : xs ≡ front ++ rest
  joined = rw (taken, left) (sym (take-append-drop n xs))

  -- what is in the rest is in the list
  in_rest : (x : T) → Contains rest x → Contains xs x
  in_rest x c = subst (λ l. Contains l x) (sym joined) (Contains-append_right front rest x c)

  -- the part from there on up to the place m elements later
  module _ (m : ℕ) (short : m ≤ length rest) where
    part : slice_range xs n (n + m) ≡ take m rest
    part = rw (left, e) refl
      where
        e : (n + m) - n ≡ m
        e = omega arith

    part_length : length (slice_range xs n (n + m)) ≡ m
    part_length = ap length part ∙ length-take-le m rest short

    rest_whole : rest ≡ slice_range xs n (n + m) ++ drop m rest
    rest_whole = sym (take-append-drop m rest) ∙ ap (λ l. l ++ drop m rest) (sym part)

pub count_before-len-requires : goal.count_before-len-requires
count_before-len-requires g c =
    callable_on_fewer g.F.FnMut c.args.slice.now c.split_at.result.1.now
    (in_rest _ _ _ _ c.split_at.ensures.front c.split_at.ensures.back) _ c.count_before-start.ensures.callable

pub returns-clause-questions : goal.returns-clause-questions
returns-clause-questions g c =
    let xs = c.args.slice.now in
    let start = c.count_before-start.result in
    let len = c.count_before-len.result in
    let front = c.split_at.ensures.front in
    let back = c.split_at.ensures.back in
    let later = rest_whole xs _ c.split_at.result.1.now start front back len c.count_before-len.ensures.within in (
      record {
        before = c.split_at.result.0.now;
        after = drop len c.split_at.result.1.now;
        whole = joined _ _ _ _ front back ∙ ap (λ l. c.split_at.result.0.now ++ l) later;
        state_between = c.count_before-start.new.f;
        less_search = subst (λ n. AsksPartition g.F.FnMut (g.L.Test.passes c.args.less.now) xs c.args.f.now n c.count_before-start.new.f)
            (sym c.split_at.ensures.front_len) c.count_before-start.ensures.questions;
        equal_search = subst (λ l. AsksPartition g.F.FnMut (g.E.Test.passes c.args.equal.now) l c.count_before-start.new.f
            (length (slice_range xs start (start + len))) c.count_before-len.new.f) later
            (subst (λ n. AsksPartition g.F.FnMut (g.E.Test.passes c.args.equal.now) c.split_at.result.1.now c.count_before-start.new.f n
            c.count_before-len.new.f) (sym (part_length xs _ _ start front back len c.count_before-len.ensures.within))
            c.count_before-len.ensures.questions);
      },
      c.split_at.ensures.front_len,
    )

pub returns-clause-local : goal.returns-clause-local
returns-clause-local g c answer by =
    let xs = c.args.slice.now in
    let start = c.count_before-start.result in
    let len = c.count_before-len.result in
    let front = c.split_at.ensures.front in
    let back = c.split_at.ensures.back in
    let later = rest_whole xs _ c.split_at.result.1.now start front back len c.count_before-len.ensures.within in
    let answers = computes_on_fewer g.F.FnMut xs c.split_at.result.1.now (in_rest _ _ _ _ front back) answer _
    (c.count_before-start.ensures.computes answer by) in (
      record {
        before = c.split_at.result.0.now;
        after = drop len c.split_at.result.1.now;
        whole = joined _ _ _ _ front back ∙ ap (λ l. c.split_at.result.0.now ++ l) later;
        starts = subst (IsLocalBoundary (λ x. as_ordering (g.L.Test.passes c.args.less.now (answer x))) xs)
            (sym c.split_at.ensures.front_len) (c.count_before-start.ensures.boundary answer by);
        ends = subst (λ l. IsLocalBoundary (λ x. as_ordering (g.E.Test.passes c.args.equal.now (answer x))) l
            (length (slice_range xs start (start + len)))) later
            (subst (IsLocalBoundary (λ x. as_ordering (g.E.Test.passes c.args.equal.now (answer x))) c.split_at.result.1.now)
            (sym (part_length xs _ _ start front back len c.count_before-len.ensures.within))
            (c.count_before-len.ensures.boundary answer answers));
      },
      c.split_at.ensures.front_len,
    )

pub returns-clause-callable : goal.returns-clause-callable
returns-clause-callable g c =
    may_go_on g.F.FnMut c.split_at.result.1.now (λ k. as_ordering (g.E.Test.passes c.args.equal.now k)) _ _ _
    c.count_before-len.ensures.questions
    (Contains c.args.slice.now) (in_rest _ _ _ _ c.split_at.ensures.front c.split_at.ensures.back)
    c.count_before-start.ensures.callable

pub returns-clause-computes : goal.returns-clause-computes
returns-clause-computes g c answer by =
    answers_go_on g.F.FnMut c.split_at.result.1.now (λ k. as_ordering (g.E.Test.passes c.args.equal.now k)) _ _ _
    c.count_before-len.ensures.questions (Contains c.args.slice.now)
    (in_rest _ _ _ _ c.split_at.ensures.front c.split_at.ensures.back) answer (c.count_before-start.ensures.computes answer by)
