use Rattle.std.proofs.Common.{arith, refl, sym, ◌∙◌}
use Rattle.sgb_search.proofs.Searches.Galloping.{doubles_start, doubles_may, doubles_low, doubles_end, doubles_stop, doubles_on, less_below, not_less}
use Rattle.sgb_search.proofs.gallop.bracket.Goals as goal

pub returns-then-high-low-lt2 : goal.returns-then-high-low-lt2
returns-then-high-low-lt2 g c =
    doubles_end _ _ _ _ _ _ c.requires.order _ _ _ (doubles_start _ _ _ _ _ _ c.requires.order _ refl) (omega (arith, c.requires.order))

pub compare-requires : goal.compare-requires
compare-requires g c =
    let i = c.loop-from.invariant in
    doubles_may _ _ _ _ _ _ c.requires.order _ _ _ i.doubles c.requires.callable i.below

pub returns-then-high-from : goal.returns-then-high-from
returns-then-high-from g c =
    let i = c.loop-from.invariant in
    let may = doubles_may _ _ _ _ _ _ c.requires.order _ _ _ i.doubles c.requires.callable i.below in
    let low = doubles_low _ _ _ _ _ _ c.requires.order _ _ _ i.doubles i.below in
    let k = c.compare.ensures in
    let less = sym (less_below _ c.loop-from-test.ensures) ∙ k.2 in
    doubles_end _ _ _ _ _ _ c.requires.order _ _ _ (doubles_on _ _ _ _ _ _ c.requires.order _ _ _ i.doubles i.below may _ k.0 k.1 less
    c.args.high (omega arith) (omega arith) (omega arith) (λ l. absurd (omega arith))) (omega arith)

pub loop-from-preserved : goal.loop-from-preserved
loop-from-preserved g c =
    let i = c.loop-from.invariant in
    let may = doubles_may _ _ _ _ _ _ c.requires.order _ _ _ i.doubles c.requires.callable i.below in
    let low = doubles_low _ _ _ _ _ _ c.requires.order _ _ _ i.doubles i.below in
    let k = c.compare.ensures in
    let less = sym (less_below _ c.loop-from-test.ensures) ∙ k.2 in
    record {
      after = omega (arith, i.after);
      below = omega arith;
      doubles =
          doubles_on _ _ _ _ _ _ c.requires.order _ _ _ i.doubles i.below may _ k.0 k.1 less _ (omega arith) (omega arith) (omega arith)
          (λ _. omega arith);
    }

pub returns : goal.returns
returns g c =
    let i = c.loop-from.invariant in
    let may = doubles_may _ _ _ _ _ _ c.requires.order _ _ _ i.doubles c.requires.callable i.below in
    doubles_stop _ _ _ _ _ _ c.requires.order _ _ _ i.doubles i.below may _ c.compare.ensures.0 c.compare.ensures.1 _
    c.compare.ensures.2 (not_less _ c.loop-from-test.ensures)

pub loop-from-init : goal.loop-from-init
loop-from-init g c = record { after = omega arith; below = omega arith; doubles = doubles_start _ _ _ _ _ _ c.requires.order _ refl }
