use Rattle.slice_group_simd.specs.declared.AsciiClass.TheVariants.{Letter}
use Rattle.example_walks.proofs.tokens.count_words.Goals as goal

pub returns : goal.returns
returns c = c.count_classes.ensures Letter
