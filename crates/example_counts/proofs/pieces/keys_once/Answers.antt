use Rattle.std.proofs.Common.{rules, ap, map, sym, ◌∙◌}
use Rattle.std.specs.Prelude.{get_or}
use Rattle.std.proofs.lemmas.Fn.{always_returns_same}
use Rattle.slice_group_by.specs.End.TheVariants.{Front}
use Rattle.example_counts.specs.Keys.{key, same_key}
use Rattle.example_counts.proofs.pieces.keys_once.Goals as goal

pub returns-clause-all : goal.returns-clause-all
returns-clause-all c =
    let settled = c.new-groups.ensures.settled key (always_returns_same _ _ _ (λ a r f' k. search rules)) tt in
    let all = rw c.new-groups.ensures.remainder at (c.sees_pieces.ensures.whole same_key Front _ _ settled
    (_, (_, rw c.into_iter-group-iterator.ensures.into_iter_gives at c.loop-group.yielded_by, c.in-None.ensures.steps))) in
    c.loop-group.invariant ∙ ap (λ gs. map key (map (λ g. get_or g 0 (0, 0)) gs)) all
    ∙ ap (map key) (c.pieces_have_keys.ensures.begin key (0, 0) c.args.rows.now)
    ∙ c.pieces_have_keys.ensures.keys key c.args.rows.now

pub returns-clause-once : goal.returns-clause-once
returns-clause-once c =
    rw (returns-clause-all c, sym (c.pieces_have_keys.ensures.keys key c.args.rows.now))
    (c.pieces_by_key.ensures.firsts key c.args.rows.now c.requires)
