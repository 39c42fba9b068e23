-- Each iteration keeps the greatest common divisor and makes the sum smaller.
use Rattle.std.proofs.Common.{◌+◌}
use Rattle.fraction.specs.Divisors.{gcd_of}
use Rattle.fraction.proofs.Binary.{Odds}
use Rattle.fraction.proofs.gcd.Given as goal

abbrev pub invariant-loop-a : goal.invariant-loop-a
invariant-loop-a l = Odds (gcd_of l.initial.a l.initial.b) l.a l.b

abbrev pub decreases-loop-a : goal.decreases-loop-a
decreases-loop-a l = l.a + l.b
