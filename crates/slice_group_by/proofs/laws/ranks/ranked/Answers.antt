use Rattle.std.proofs.Common.{◌≡◌, ℕ, ◌+◌, ◌++◌, ◌∷◌, [], drop, List, length, nat_eq, replicate, ap, ◌∙◌, sym, arith, refl, Some}
use Rattle.std.proofs.lemmas.List.{length-append, length-replicate}
use Rattle.sgb_split.specs.Split.{split}
use Rattle.sgb_split.specs.declared.end.End.TheVariants.{Front}
use Rattle.slice_group_by.proofs.Pieces.Ranks.{numbered, ranks_numbered, one_more}
use Rattle.slice_group_by.proofs.laws.ranks.ranked.Goals as goal

pub loop-group-init : goal.loop-group-init
loop-group-init c =
    let loans = c.new-groups.ensures.loans in
    record {
      settled = c.new-groups.ensures.settled tt;
      root = refl;
      cuts = loans.cuts;
      after = loans.after;
      ranked =
          ap (λ (l : List ℕ). l ++ numbered 0 (split nat_eq c.new-groups.result.remainder)) loans.before
          ∙ ranks_numbered nat_eq c.new-groups.result.remainder;
      counted = omega arith;
      kept = omega (arith, ap length loans.before);
    }

pub loop-group-preserved : goal.loop-group-preserved
loop-group-preserved c =
    let i = c.loop-group.invariant in
    let note = c.note_front.ensures in
    let steps = c.in-Some.ensures.steps in
    let group = c.in-Some.group.now in
    let before_it = c.loop-group.groups in
    let after_it = c.next.new.self in
    let cut : split nat_eq before_it.remainder ≡ group ∷ split nat_eq after_it.remainder =
    c.calls_take_pieces.ensures.whole nat_eq Front before_it after_it c.in-Some.group steps i.settled in
    let stays = c.calls_take_pieces.ensures.settled nat_eq Front before_it after_it (Some c.in-Some.group) steps i.settled in
    let filled : c.of.result.value ≡ replicate (length group) c.loop-group.rank = c.of.ensures.value ∙ c.fill.ensures.after (λ _ h. h) in
    let before : c.note_front.new.self.loans.before ≡ c.loop-group.groups.loans.before ++ c.of.result.value =
    note.before ∙ ap (λ (l : List ℕ). l ++ c.of.result.value) steps.1.before in
    let longer : length c.note_front.new.self.loans.before ≡ length c.loop-group.groups.loans.before + length group =
    ap length before ∙ length-append c.loop-group.groups.loans.before c.of.result.value
    ∙ ap (λ n. length c.loop-group.groups.loans.before + n) (ap length filled ∙ length-replicate (length group) c.loop-group.rank) in
    let shorter : length c.loop-group.groups.remainder ≡ length group + length c.note_front.new.self.remainder =
    ap length steps.0.cut ∙ length-append group c.next.new.self.remainder
    ∙ ap (λ (l : List ℕ). length group + length l) (sym note.remainder) in
    record {
      settled = rw (note.remainder, note.judge) stays;
      root = note.root ∙ steps.1.root ∙ i.root;
      cuts = note.cuts ∙ ap (drop 1) (steps.1.cuts ∙ ap (λ cs. cs ++ (Front, c.in-Some.group.ghost_name) ∷ []) i.cuts);
      after = note.after ∙ steps.1.after ∙ i.after;
      ranked = ap (λ (l : List ℕ). l ++ numbered (c.loop-group.rank + 1) (split nat_eq c.note_front.new.self.remainder)) before
          ∙ ap (λ (l : List ℕ). (c.loop-group.groups.loans.before ++ c.of.result.value) ++ numbered (c.loop-group.rank + 1)
          (split nat_eq l)) note.remainder
          ∙ one_more nat_eq _ _ c.loop-group.rank group after_it.remainder before_it.remainder _ i.ranked cut filled;
      counted = omega (arith, longer, i.counted, steps.0.nonempty);
      kept = omega (arith, longer, shorter, i.kept);
    }
