use Rattle.std.proofs.Common.{◌≡◌, ◌≢◌, ◌∙◌, sym, refl, arith, true, false}
use Rattle.std.specs.Ordering.{is_ne}
use Rattle.std.specs.declared.cmp.Ordering.{Ordering}
use Rattle.std.specs.declared.cmp.Ordering.TheVariants.{Less, Equal, Greater}
use Rattle.program_parts.proofs.RowFields.{agree, differ, ended}
use Rattle.program_parts.proofs.row.Row.cmp_fields.Goals as goal

is_other : (o : Ordering) → is_ne o ≡ true → o ≢ Equal
is_other Less e = λ is. cc
is_other Equal e = cc
is_other Greater e = λ is. cc

is_equal : (o : Ordering) → is_ne o ≡ false → o ≡ Equal
is_equal Less e = cc
is_equal Equal e = refl
is_equal Greater e = cc

pub returns-then-is_ne : goal.returns-then-is_ne
returns-then-is_ne c =
    let order = rw (c.key_field.ensures, c.key_field-in-loop-place.ensures) at c.cmp-order.ensures in
    sym (differ c.loop-place.place c.args.self.now.key c.args.other.now.key c.cmp-order.result (omega arith) (omega arith) (sym order)
    (is_other _ (sym c.is_ne.ensures ∙ c.if-is_ne.true))) ∙ c.loop-place.invariant

pub loop-place-preserved : goal.loop-place-preserved
loop-place-preserved c =
    let order = rw (c.key_field.ensures, c.key_field-in-loop-place.ensures) at c.cmp-order.ensures in
    agree c.loop-place.place c.args.self.now.key c.args.other.now.key (omega arith) (omega arith)
    (sym order ∙ is_equal _ (sym c.is_ne.ensures ∙ c.if-is_ne.false)) ∙ c.loop-place.invariant

pub returns : goal.returns
returns c =
    let end = ended c.loop-place.place c.args.self.now.key c.args.other.now.key (omega arith) in
    rw (c.key_len-len.ensures, c.key_len-other_len.ensures) at c.cmp.ensures ∙ sym end ∙ c.loop-place.invariant
