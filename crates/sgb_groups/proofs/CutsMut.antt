-- A slice taken out of an iterator for writing may be asked about as the remainder may.
use Rattle.std.proofs.Common.{◌≡◌, List, sym, subst}
use Rattle.sgb_groups.specs.Gives.{groups_of_mut}
use Rattle.sgb_split.specs.Calls.{IsCallableBy}
use Rattle.sgb_split.specs.declared.judge.Judge.{Ghosts}
use Rattle.sgb_split.specs.Judges.{IsCallable}
use Rattle.sgb_loans.specs.Loans.{GroupsMut}

pub callable_taken : {T J : Type 0} (g : Ghosts J T) (allowed : List T → T × T → Type 0) (zs : List T) (v s : GroupsMut T J)
    → zs ≡ v.remainder → v ≡ s → IsCallableBy allowed g (groups_of_mut s) → IsCallable g.may_ask g.answers (allowed zs) v.judge
callable_taken g allowed zs v s r e may =
    rw r (subst (λ (u : GroupsMut _ _). IsCallable g.may_ask g.answers (allowed u.remainder) u.judge) (sym e) may)
