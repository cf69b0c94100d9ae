use Rattle.std.proofs.Common.{arith}
use Rattle.sgb_split.specs.declared.end.End.TheVariants.{Front, Back}
use Rattle.sgb_groups.proofs.Outward.{reads_front, reads_back, search_may, search_asks}
use Rattle.sgb_groups.proofs.searching.SearchWay.group_len.Goals.{in-Front, in-Back}
use Rattle.sgb_groups.proofs.searching.SearchWay.group_len.Goals as goal

pub search-requires-clause-callable : goal.search-requires-clause-callable
search-requires-clause-callable g c =
    let r = reads_front c.args.slice.now _ _ c.requires.nonempty c.requires.inside _ c.index-slice-low.is in
    search_may g.J.Judge Front _ _ _ _ _ r _ (λ j i b. (λ m. m, λ m. m)) _ c.requires.callable

pub search-requires-in-Back-clause-callable : goal.search-requires-in-Back-clause-callable
search-requires-in-Back-clause-callable g c =
    let r = reads_back c.args.slice.now _ _ c.requires.nonempty c.requires.inside _ c.index-slice-last.is in
    search_may g.J.Judge Back _ _ _ _ _ r _ (λ j i b. (λ m. m.1, λ m. (omega (arith, b), m))) _ c.requires.callable

pub returns-clause-asked : goal.returns-clause-asked
returns-clause-asked g c =
    elim c.match-end.branch [
      | in-Front w ↦
          let r = reads_front c.args.slice.now _ _ c.requires.nonempty c.requires.inside _ w.index-slice-low.is in
          rw (w.in-Front.is, c.answer_place.ensures, w.answer_place-is, w.judge-is)
          (search_asks g.J.Judge Front _ _ _ _ _ r _ (λ j i b. (λ m. m, λ m. m)) _ _ _ _ w.search.ensures)
      | in-Back w ↦
          let r = reads_back c.args.slice.now _ _ c.requires.nonempty c.requires.inside _ w.index-slice-last.is in
          rw (w.in-Back.is, c.answer_place.ensures, w.answer_place-is, w.judge-is)
          (search_asks g.J.Judge Back _ _ _ _ _ r _ (λ j i b. (λ m. m.1, λ m. (omega (arith, b), m))) _ _ _ _ w.search-in-Back.ensures)
    ]
