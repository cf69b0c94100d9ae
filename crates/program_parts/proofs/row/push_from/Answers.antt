use Rattle.std.proofs.Common.{◌<◌, ◌∙◌, length, map, take, drop, refl, arith, length-drop, length-take}
use Rattle.csv.specs.Records.{fields_of}
use Rattle.program_parts.proofs.RowFields.{all_taken, field_cut, texts_more}
use Rattle.program_parts.proofs.row.push_from.Goals as goal

pub loop-place-preserved : goal.loop-place-preserved
loop-place-preserved c =
    let fields = fields_of c.args.fields.now in
    let long = length-drop c.args.at fields in
    let few = length-take c.args.count (drop c.args.at fields) in
    let inside : c.loop-place.place < length (take c.args.count (drop c.args.at fields)) = omega (arith, long, few) in
    texts_more c.loop-place.line.items _ (map (λ text. text.now) c.args.line.now.items) (take c.args.count (drop c.args.at fields))
    c.loop-place.place c.field_or_empty.result inside c.loop-place.invariant c.in_ok-push.ensures.items
    (c.field_or_empty.ensures ∙ field_cut c.args.count c.args.at c.loop-place.place fields _ refl inside (omega arith))

pub returns : goal.returns
returns c =
    let fields = fields_of c.args.fields.now in
    let long = length-drop c.args.at fields in
    let few = length-take c.args.count (drop c.args.at fields) in
    all_taken (map (λ text. text.now) c.args.line.now.items) (take c.args.count (drop c.args.at fields)) _ c.loop-place.place
    (omega (arith, long, few)) c.loop-place.invariant
