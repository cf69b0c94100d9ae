use Rattle.std.proofs.Common.{◌≡◌, arith, map, subst, take}
use Rattle.std.proofs.lemmas.Grind.{common_steps}
use Rattle.std.specs.List.{AllZip}
use Rattle.csv.specs.Records.{fields_of}
use Rattle.program_parts.proofs.Places.{zip_column}
use Rattle.table_join.specs.Headers.{IsNamed}
use Rattle.table_join.proofs.header.unique_names.Goals as goal

pub loop-name-preserved : goal.loop-name-preserved
loop-name-preserved c =
    let pushed = rw (c.loop-name.invariant.1, c.deref.ensures.value) at c.in_ok-push_field.ensures.fields in (
      zip_column IsNamed c.args.names.now (fields_of c.loop-name.header) _ c.loop-name.name-index _ c.in_ok-name.name.items (omega arith)
          c.loop-name.invariant.0 c.in_ok-name.ensures pushed,
      c.in_ok-push_field.ensures.partial,
    )

pub returns : goal.returns
returns c =
    let all : take c.loop-name.name-index c.args.names.now ≡ c.args.names.now = grind (arith, common_steps) in
    subst (λ names. AllZip IsNamed (map (λ name. name.now) names) (fields_of c.loop-name.header)) all c.loop-name.invariant.0
