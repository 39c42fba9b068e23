use Rattle.std.proofs.Common.{◌+◌, ◌*◌, ◌≤◌}
use Rattle.lists.specs.Lists.{WrittenAt}
use Rattle.two_way.specs.TwoWay.{network_of}
use Rattle.sheet.specs.LineRoom.{longest_line}
use Rattle.whole_sheet.specs.SheetWriting.{bus_lines}
use Rattle.whole_sheet.proofs.write_lines.Given as goal

-- The lines of the buses passed are written behind the heading.
abbrev pub invariant-loop-bus : goal.invariant-loop-bus
invariant-loop-bus l = WrittenAt (bus_lines (network_of l.network) l.bus) l.initial.end l.initial.out l.end l.out × (l.end ≤ l.initial.end + longest_line * l.bus)
