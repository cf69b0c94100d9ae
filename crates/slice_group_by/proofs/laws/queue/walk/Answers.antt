use Rattle.std.proofs.Common.{arith, take_all, rules}
use Rattle.std.proofs.lemmas.List.{take_more, take_more_set}
use Rattle.sgb_split.specs.declared.end.End.TheVariants.{Front}
use Rattle.slice_group_by.specs.Walk.{IsChain}
use Rattle.slice_group_by.proofs.Queues.Chains.{chain_push, chain_parts, chain_answers, chain_settled, chain_asks}
use Rattle.slice_group_by.proofs.laws.queue.walk.Goals as goal

whole : (g : _) (c : goal.After-loop-i g) → IsChain g.Q.GroupQueue.gives c.args.queue.now c.args.ends.now c.loop-i.out c.loop-i.queue
whole g c =
    rw (take_all c.loop-i.i c.args.ends.now c.loop-i-test.false, take_all c.loop-i.i c.loop-i.out (omega arith)) at c.loop-i.invariant.chain

pub loop-i-preserved : goal.loop-i-preserved
loop-i-preserved g c = record {
  can = c.pop_at.ensures.can;
  len = search rules;
  chain =
      rw (
        ← take_more c.args.ends.now c.loop-i.i Front c.loop-i-test.true,
        ← take_more_set c.loop-i.out c.loop-i.i c.pop_at.result
            (omega arith),
      ) at (chain_push _ _ _ _ _ _ _ _ c.loop-i.invariant.chain c.pop_at.ensures.gives);
}

pub returns-clause-partition : goal.returns-clause-partition
returns-clause-partition g c = chain_parts _ _ _ g.met.Q.GroupQueue.part _ _ _ _ (whole g c)

pub returns-clause-settled : goal.returns-clause-settled
returns-clause-settled g c p h = chain_settled _ _ _ _ p g.met.Q.GroupQueue.piece _ _ _ _ (whole g c) h

pub returns-clause-pieces : goal.returns-clause-pieces
returns-clause-pieces g c p h = (chain_answers _ _ _ _ p g.met.Q.GroupQueue.piece _ _ _ _ (whole g c) h).answers

pub returns-clause-left : goal.returns-clause-left
returns-clause-left g c p h = (chain_answers _ _ _ _ p g.met.Q.GroupQueue.piece _ _ _ _ (whole g c) h).rest

pub returns-clause-questions : goal.returns-clause-questions
returns-clause-questions g c =
    chain_asks _ _ _ _ g.met.Q.GroupQueue.asked_none g.met.Q.GroupQueue.asked_more g.met.Q.GroupQueue.asks_due _ _ _ _ (whole g c)
