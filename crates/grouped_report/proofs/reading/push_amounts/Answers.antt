use Rattle.std.proofs.Common.{◌≡◌, ◌+◌, [], ◌∷◌, ◌++◌, get_or, drop, map, Option, None, Some, option_map, ℤ, refl, sym, ap}
use Rattle.std.proofs.Common.{◌∙◌, add-one, append-nil, append_assoc, drop-cons, drop_of_length-le}
use Rattle.csv.specs.Records.{fields_of}
use Rattle.program_parts.specs.Records.{field}
use Rattle.grouped_report.specs.Amounts.{amount_in}
use Rattle.grouped_report.specs.Input.{amounts_in, with_amount}
use Rattle.grouped_report.proofs.Adding.{Amounts}
use Rattle.grouped_report.proofs.reading.push_amounts.Goals as goal

-- none is read yet
none_read : (o : Option Amounts) (read : Amounts) → read ≡ [] → o ≡ option_map (λ others. read ++ others) o
none_read None read none = refl
none_read (Some amounts) read none = rw none refl

-- one more
one_read : (read : Amounts) (amount : Option ℤ) (o : Option Amounts)
    → option_map (λ others. read ++ others) (with_amount (Some amount) o) ≡ option_map (λ others. (read ++ amount ∷ []) ++ others) o
one_read read amount None = refl
one_read read amount (Some others) = ap (λ (l : Amounts). Some l) (sym (append_assoc read (amount ∷ []) others))

pub loop-place-init : goal.loop-place-init
loop-place-init c = (refl, none_read _ _ c.requires)

pub loop-place-preserved : goal.loop-place-preserved
loop-place-preserved c =
    let places = c.args.places.now in
    let i = c.loop-place.place-index in
    let f = field (fields_of c.args.fields.now) in
    let rest = amounts_in (map f (drop (i + 1) places)) in
    let cut : drop i places ≡ get_or places i 0 ∷ drop (i + 1) places = rw add-one (drop-cons places i 0 c.loop-place-test.true) in
    let is : amount_in (f (get_or places i 0)) ≡ Some c.in-Some.amount =
    ap amount_in (sym c.field_or_empty-text.ensures) ∙ sym c.read_amount.ensures ∙ c.in-Some.is in
    let before = rw (cut, is) at c.loop-place.invariant.1 in (
      c.in_ok-push_amount.ensures.group ∙ c.loop-place.invariant.0,
      before ∙ one_read c.loop-place.row.amounts c.in-Some.amount rest
          ∙ ap (λ (read : Amounts). option_map (λ others. read ++ others) rest) (sym c.in_ok-push_amount.ensures.amounts),
    )

pub returns-in_default-clause-none : goal.returns-in_default-clause-none
returns-in_default-clause-none c =
    let places = c.args.places.now in
    let i = c.loop-place.place-index in
    let cut : drop i places ≡ get_or places i 0 ∷ drop (i + 1) places = rw add-one (drop-cons places i 0 c.loop-place-test.true) in
    let is : amount_in (field (fields_of c.args.fields.now) (get_or places i 0)) ≡ None =
    ap amount_in (sym c.field_or_empty-text.ensures) ∙ sym c.read_amount.ensures ∙ c.in_default.is in
    rw (cut, is) at c.loop-place.invariant.1

pub returns-clause-amounts : goal.returns-clause-amounts
returns-clause-amounts c =
    let none : drop c.loop-place.place-index c.args.places.now ≡ [] = drop_of_length-le c.args.places.now c.loop-place-test.false in
    let all = rw none at c.loop-place.invariant.1 in all ∙ ap (λ (l : Amounts). Some l) (append-nil c.loop-place.row.amounts)
