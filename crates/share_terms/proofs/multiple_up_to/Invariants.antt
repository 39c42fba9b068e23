-- The multiple of the numbers passed.
use Rattle.std.proofs.Common.{◌≡◌, ◌-◌, ◌/◌}
use Rattle.share_terms.proofs.Upper.{upper}
use Rattle.share_terms.proofs.multiple_up_to.Given as goal

abbrev pub invariant-loop-k : goal.invariant-loop-k
invariant-loop-k l = l.multiple ≡ upper l.m (l.k - l.m / 2)
