use Rattle.std.proofs.Common.{arith, ℕ}
use Rattle.lists.specs.Lists.{at}
use Rattle.lists.proofs.Loops.{by_end}
use Rattle.signed.specs.Signed.{difference, Fronted}
use Rattle.signed.proofs.SignedBits.{read_back}
use Rattle.signed.proofs.SignedLists.{front-next, front_list}
use Rattle.outage.proofs.store.Goals as goal

pub less-requires : goal.less-requires
unfolding at
less-requires c = let p = c.requires.small c.loop-bus.bus in (omega (arith, p), omega (arith, p))

pub loop-bus-preserved : goal.loop-bus-preserved
unfolding at
loop-bus-preserved c =
    let p = c.requires.small c.loop-bus.bus in
    front-next _ _ c.loop-bus.invariant (omega arith) (read_back _ _ p.1 p.0 c.less.ensures)

pub returns : goal.returns
returns c =
    let stored : ℕ → Type 0 = λ n. Fronted n (λ v. difference (at c.args.after.now v) (at c.args.before.now v)) c.args.changes.now c.loop-bus.changes in
    front_list _ _ _ _ (by_end stored c.loop-bus.invariant c.loop-bus.auto.bus-end c.loop-bus-test.false) c.requires.inside.2
