use Rattle.std.proofs.Common.{ℕ}
use Rattle.std.proofs.Math.ListN.{length-replicate}
use Rattle.lists.proofs.Places.{at-zeros}
use Rattle.table_spec.specs.Limits.{max_buses}
use Rattle.row_builder.proofs.zero_counts.Goals as goal

pub returns : goal.returns
returns c = record { size = length-replicate {A = ℕ} max_buses 0; zero = at-zeros max_buses }
