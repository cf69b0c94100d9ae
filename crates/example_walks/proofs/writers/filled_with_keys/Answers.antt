use Rattle.std.proofs.Common.{rules, arith, refl, ap, sym, ◌∙◌, ◌≡◌, ◌++◌, map, append_assoc, length, replicate, Some}
use Rattle.std.proofs.lemmas.Bool.{eqb-true}
use Rattle.std.proofs.lemmas.List.{map-append}
use Rattle.slice_group_by.specs.End.TheVariants.{Front}
use Rattle.slice_group_by.specs.Judges.{key_judge}
use Rattle.example_walks.specs.Tens.{same_tens, tens}
use Rattle.example_walks.proofs.writers.filled_with_keys.Goals as goal

pub loop-group-preserved : goal.loop-group-preserved
loop-group-preserved g c =
    let i = c.loop-group.invariant in
    let steps = c.in-Some.ensures.steps in
    let note = c.note_front.ensures in
    let key = c.key_of-key.ensures in
    let called = c.requires.calls _ _ _ _ key.called in
    let laws = c.calls_take_pieces.ensures in
    let s = c.loop-group.groups in
    let group = c.in-Some.group.now in
    let whole = laws.whole same_tens Front s c.next.new.self c.in-Some.group steps i.settled in
    let keys = c.pieces_have_keys.ensures.one eqb-true tens 0 s.remainder group (rw whole (0, omega arith, refl)) in
    let filled : c.of.result.value ≡ replicate (length group) c.key_of-key.result = search rules in
    record {
      settled =
          rw (note.remainder, key.remainder, note.judge, ap key_judge called.1)
          (laws.settled same_tens Front s c.next.new.self (Some c.in-Some.group) steps i.settled);
      root = search rules;
      cuts = search rules;
      after = search rules;
      done =
          rw (note.before, note.remainder, key.remainder, ap (λ l. l.before) key.loans, steps.1.before, filled, called.0, ← keys)
          (append_assoc s.loans.before (map tens group) (map tens c.next.new.self.remainder)
          ∙ ap (λ l. s.loans.before ++ l) (sym (map-append tens group c.next.new.self.remainder) ∙ ap (map tens) (sym steps.0.cut))
          ∙ i.done);
    }
