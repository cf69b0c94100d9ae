use Rattle.std.proofs.Common.{ℕ, rules, length, refl, sym, ap, ◌∙◌, subst}
use Rattle.std.specs.Fn.{ComputesKey}
use Rattle.std.proofs.lemmas.Fn.{always_returns_same}
use Rattle.std.proofs.lemmas.Iterator.{YieldsList-from_map, items_from_collect}
use Rattle.std.proofs.lemmas.Iterator.Consumers.{YieldsList-at}
use Rattle.slice_group_by.specs.Calls.{Place}
use Rattle.example_walks.proofs.keys.index_of.Goals as goal

abbrev key : ℕ × ℕ → ℕ
key row = row.0

pub returns : goal.returns
returns c =
    let groups = c.with_keys-groups in
    let judge = ap (λ q. q.judge.func) c.with_offsets.ensures ∙ ap (λ j. j.func) c.new.ensures.judge in
    let seen = YieldsList-at c.map.ensures.source (c.sees_keys_at.ensures key groups.result (λ _. refl) (λ q group k t h. h.2)
    (rw groups.ensures (subst (ComputesKey _ key) (sym judge) (always_returns_same _ _ _ (λ a r f' k. search rules)), tt))) in
    let offset = ap (λ (p : Place (ℕ × ℕ)). p.offset) c.new.ensures.place in
    rw (groups.ensures, c.with_offsets.ensures, c.new.ensures.remainder, offset)
    at (items_from_collect c.collect.result c.collect.ensures.ran
    (YieldsList-from_map _ (λ e. (e.0, e.1.0, length e.1.1)) seen c.map.ensures.closure (λ x r q k. search rules)))
