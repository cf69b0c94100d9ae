use Rattle.std.proofs.Common.{◌≡◌, ◌+◌, [], ◌∷◌, ◌++◌, append_assoc, sym, ◌∙◌}
use Rattle.slice_group_by.specs.Seams.{lens_joined}
use Rattle.example_counts.proofs.GroupLens.{grown_if_ok, joined_apart, joined_push, joined_with_none}
use Rattle.example_counts.proofs.parts.join_lens.Goals as goal

pub returns-then-not-is_joined : goal.returns-then-not-is_joined
returns-then-not-is_joined c =
    grown_if_ok c.extend_from_slice.result c.extend_from_slice.new.self.items c.args.lens.now.items c.args.next.now
    (lens_joined c.args.is_joined c.args.lens.now.items c.args.next.now)
    c.extend_from_slice.ensures.items
    (rw c.if-not-is_joined.true (sym (joined_apart c.args.lens.now.items c.args.next.now)))

pub returns-in_default : goal.returns-in_default
returns-in_default c = joined_with_none c.args.is_joined c.args.lens.now.items c.args.next.now c.in_default.ensures.cases

pub returns : goal.returns
returns c =
    let before = c.pop.new.self.items in
    let last = c.in-Some-pop.last in
    let first = c.in-Some.first.now in
    let others = c.in-Some.others.now in
    let lens : c.args.lens.now.items ≡ before ++ last ∷ [] = c.in-Some-pop.ensures.items in
    let next : c.args.next.now ≡ first ∷ others = c.in-Some.ensures.cases.0 in
    grown_if_ok c.extend_from_slice-2.result c.extend_from_slice-2.new.self.items c.push.new.self.items others
    (lens_joined c.args.is_joined c.args.lens.now.items c.args.next.now)
    c.extend_from_slice-2.ensures.items
    (rw (c.in_ok-push.ensures.items, c.if-not-is_joined.false, lens, next)
    (append_assoc before ((last + first) ∷ []) others ∙ sym (joined_push before last first others)))
