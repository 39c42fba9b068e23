use Rattle.std.proofs.Common.{ap₂, ◌∙◌}
use Rattle.lists.specs.Lists.{part}
use Rattle.table_spec.proofs.Rows.{weights_read}
use Rattle.network.proofs.table.weights.Goals as goal

pub returns : goal.returns
returns c = ap₂ (λ a e. part a e c.args.table.now) c.weights_from-from.ensures c.starts_from-end.ensures ∙ weights_read _ c.bus_count-n.ensures.0
