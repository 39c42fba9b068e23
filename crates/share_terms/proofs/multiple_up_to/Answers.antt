use Rattle.std.proofs.Common.{arith, ◌≡◌, ◌∙◌, ◌+◌, ◌-◌, ◌/◌}
use Rattle.lists.proofs.Loops.{by_end}
use Rattle.share_terms.proofs.Upper.{upper, upper_start, upper-next, upper-le, upper_half}
use Rattle.share_terms.proofs.multiple_up_to.Goals as goal

pub loop-k-init : goal.loop-k-init
loop-k-init c = upper_start c.args.m

pub lcm-multiple-requires : goal.lcm-multiple-requires
lcm-multiple-requires c =
    omega (
      arith,
      upper-next c.args.m c.loop-k.auto.k c.loop-k.invariant,
      upper-le c.args.m (c.loop-k.k + 1 - c.args.m / 2) (omega arith),
    )

pub loop-k-preserved : goal.loop-k-preserved
loop-k-preserved c = c.lcm-multiple.ensures.answer ∙ upper-next _ c.loop-k.auto.k c.loop-k.invariant

pub returns : goal.returns
returns c =
    by_end (λ k. c.loop-k.multiple ≡ upper c.args.m (k - c.args.m / 2)) c.loop-k.invariant (omega arith) (omega arith)
    ∙ upper_half c.args.m
