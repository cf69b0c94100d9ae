use Rattle.std.proofs.Common.{◌≡◌, rules, Bool}
use Rattle.std.proofs.lemmas.Fn.{always_returns_same}
use Rattle.std.proofs.lemmas.List.Sorted.{ranks_by}
use Rattle.std.specs.Ordering.{is_lt}
use Rattle.program_parts.proofs.TablesRead.{keys_total}
use Rattle.program_parts.specs.Rows.{Row, by_key}
use Rattle.program_parts.proofs.table.sort_rows.Goals as goal

pub returns : goal.returns
returns c =
    let less : Row → Row → Bool = λ x y. is_lt (by_key x y) in
    let by = always_returns_same _ (λ a r. is_lt r ≡ less a.0.now a.1.0.now) _ (λ a r f' k. search rules) in
    let order = ranks_by keys_total (λ (row : Row). row.key) in
    let done = c.in_ok-sort_by.ensures in
    record { permutes = done.permutation; ascend = done.sorted less order by; stable = done.stable less order by }
