-- How long the line of a refusal is.
use Rattle.std.specs.Prelude.{ℕ, ◌≤◌, ◌<◌, length}
use Rattle.std.proofs.Common.{arith, length-append}
use Rattle.lists.specs.Lists.{at}
use Rattle.text.specs.Text.{filled}
use Rattle.text.proofs.DecimalLaws.{decimal-le}
use Rattle.refused_line.specs.RefusedLine.{refused_line, longest_refusal}

-- the line of a number of one byte fits
pub refused_fits : (k : ℕ) → k < 256 → length (refused_line k) ≤ longest_refusal
unfolding filled at
refused_fits k h = simp length-append (omega (arith, decimal-le 2 k (omega arith)))
