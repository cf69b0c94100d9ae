use Rattle.std.proofs.Common.{◌≡◌, ap, refl, sym, ◌∙◌, None, Some}
use Rattle.slice_group_stream.proofs.Ends.{kept_mapped}
use Rattle.slice_group_stream.specs.Streams.{CallsTwice, kept_of}
use Rattle.slice_group_stream.proofs.stream.StreamGroups.begins_by_key.Goals as goal

pub returns-in-Some-replace-clause-kept : goal.returns-in-Some-replace-clause-kept
returns-in-Some-replace-clause-kept g c k h =
    c.replace.ensures.after ∙ ap (λ z. Some z) (c.key_of-last_key.ensures.is k (c.key_of-first_key.ensures.computes k h))
    ∙ kept_mapped k (kept_of c.args.self.now) c.args.block.now c.in-Some.last.now c.in-Some.ensures.1

pub returns-clause-kept : goal.returns-clause-kept
returns-clause-kept g c k h =
    c.replace.ensures.after ∙ ap (λ z. Some z) (c.key_of-last_key.ensures.is k (c.key_of-first_key.ensures.computes k h))
    ∙ kept_mapped k (kept_of c.args.self.now) c.args.block.now c.in-Some.last.now c.in-Some.ensures.1

pub returns-in-Some-replace-clause-asks : goal.returns-in-Some-replace-clause-asks
returns-in-Some-replace-clause-asks g c =
    let first = c.key_of-first_key.ensures.called in
    let last = c.key_of-last_key.ensures.called in
    let calls : CallsTwice _ _ _ _ _ = record { between = _; first_key = _; last_key = _; first_call = first; last_call = last } in
    let kept : kept_of c.args.self.now ≡ Some c.in-Some-replace.before = sym c.replace.ensures.value ∙ c.in-Some-replace.is in
    rw (c.in-Some.ensures.0, c.in-Some.ensures.1, kept) (calls, c.ne.ensures, c.replace.ensures.after)

pub returns-clause-asks : goal.returns-clause-asks
returns-clause-asks g c =
    let first = c.key_of-first_key.ensures.called in
    let last = c.key_of-last_key.ensures.called in
    let calls : CallsTwice _ _ _ _ _ = record { between = _; first_key = _; last_key = _; first_call = first; last_call = last } in
    let kept : kept_of c.args.self.now ≡ None = sym c.replace.ensures.value ∙ c.in-None.is in
    rw (c.in-Some.ensures.0, c.in-Some.ensures.1, kept) (calls, refl, c.replace.ensures.after)
