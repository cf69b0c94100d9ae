use Rattle.std.proofs.Common.{◌≡◌, ◌≢◌, ◌+◌, ◌<◌, ◌⊎◌, refl, arith, inl, inr}
use Rattle.std.specs.declared.cmp.Ordering.TheVariants.{Equal}
use Rattle.sgb_search.proofs.Searches.Galloping.{bracket_may, gallop_ends}
use Rattle.sgb_search.proofs.gallop.gallop.Goals.{then-last-high, else-last-high, Joined-last-high}
use Rattle.sgb_search.proofs.gallop.gallop.Given as given
use Rattle.sgb_search.proofs.gallop.gallop.Goals as goal

-- the last place is halved too, if there is one
ends : (g : given.Over) (c : Joined-last-high g)
    → ((c.if-last-high.upto ≡ c.bracket-from.result.1) × ((c.bracket-from.result.1 ≡ c.args.high)
    ⊎ ((a : g.row.P-Answer.Denot) → g.P.Places.reads c.args.places.now a ≢ Equal)))
    ⊎ ((c.if-last-high.upto ≡ c.bracket-from.result.1 + 1) × (c.bracket-from.result.1 < c.args.high))
ends g c = elim c.if-last-high.branch [
  | then-last-high w ↦ inr (omega (arith, w.upto-is), omega (arith, w.if-last-high))
  | else-last-high w ↦
      inl (omega (arith, w.upto-is, w.if-last-high, c.bracket-from.ensures.within), inl (omega (arith, w.if-last-high, c.bracket-from.ensures.within)))
]

pub halve-requires : goal.halve-requires
halve-requires g c =
    let b = c.bracket-from.ensures in
    record { order = omega (arith, b.order); callable = bracket_may _ _ _ _ _ _ c.requires.order _ _ _ b _ _ (inl refl) (ends g c.before) c.requires.callable }

pub returns : goal.returns
returns g c = gallop_ends _ _ _ _ _ _ c.requires.order _ _ _ c.bracket-from.ensures _ _ (inl refl) (ends g c.before.before) _ _ c.halve.ensures
