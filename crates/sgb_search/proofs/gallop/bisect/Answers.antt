use Rattle.std.proofs.Common.{◌≡◌, ◌+◌, ◌<◌, ◌⊎◌, [], arith, refl, inl, inr}
use Rattle.sgb_search.proofs.Searches.Galloping.{bracket_may, gallop_ends, in_order}
use Rattle.sgb_search.proofs.Searches.Halving.{narrows_may, upper_middle, bisects_step, narrows_end}
use Rattle.sgb_search.proofs.gallop.bisect.Goals.{then-is_lt, else-is_lt, then-last-low, else-last-low}
use Rattle.sgb_search.proofs.gallop.bisect.Goals as goal

-- the last place that was asked about is not halved
pub loop-size-init : goal.loop-size-init
loop-size-init g c =
    let first : (c.if-last-low.from ≡ c.bracket-last.result.0) ⊎
    ((c.if-last-low.from ≡ c.bracket-last.result.0 + 1) × (c.args.low < c.bracket-last.result.0))
    = elim c.if-last-low.branch [
      | then-last-low w ↦ inr (omega (arith, w.from-is), omega (arith, w.if-last-low))
      | else-last-low w ↦ inl (omega (arith, w.from-is, w.if-last-low, c.bracket-last.ensures.after))
    ] in
    let order = in_order _ _ _ _ _ _ c.requires.order _ _ _ c.bracket-last.ensures _ _ first (inl (refl, inr c.requires.two)) in (
      first,
      record {
        questions = [];
        run = refl;
        places = tt;
        order = (omega arith, omega arith, omega (arith, order));
        left = (omega arith, omega arith);
        most = omega arith;
        low_end = inl refl;
        high_end = inl (omega (arith, order));
      },
    )

pub compare-requires : goal.compare-requires
compare-requires g c =
    let callable = bracket_may _ _ _ _ _ _ c.requires.order _ _ _ c.bracket-last.ensures _ _ c.loop-size.invariant.0 (inl (refl, inr c.requires.two)) c.requires.callable in
    narrows_may _ _ _ _ _ _ _ _ _ _ c.loop-size.invariant.1 callable _ (upper_middle _ _ (omega (arith, c.loop-size-test.true)))

pub loop-size-preserved : goal.loop-size-preserved
loop-size-preserved g c =
    let callable = bracket_may _ _ _ _ _ _ c.requires.order _ _ _ c.bracket-last.ensures _ _ c.loop-size.invariant.0 (inl (refl, inr c.requires.two)) c.requires.callable in
    let n = c.loop-size.invariant.1 in
    let b = upper_middle _ _ (omega (arith, c.loop-size-test.true)) in
    let k = c.compare.ensures in (
      c.loop-size.invariant.0,
      bisects_step _ _ _ _ _ _ _ _ _ _ n _ _ b (narrows_may _ _ _ _ _ _ _ _ _ _ n callable _ b) k.0 k.1 refl refl _ k.2
          (c.requires.two k.0) _ _
          (elim c.if-is_lt.branch [
            | then-is_lt w ↦ inl (w.if-is_lt.ensures, w.from-is, w.size-is)
            | else-is_lt w ↦ inr (w.if-is_lt.ensures, w.from-is, w.size-is)
          ]),
    )

pub returns : goal.returns
returns g c =
    gallop_ends _ _ _ _ _ _ c.requires.order _ _ _ c.bracket-last.ensures _ _ c.loop-size.invariant.0 (inl (refl, inr c.requires.two)) _ _
    (narrows_end _ _ _ _ _ _ _ _ _ _ c.loop-size.invariant.1 (omega (arith, c.loop-size-test.false)))
