-- The bytes passed are written with their numbers.
use Rattle.std.proofs.Common.{length, ◌+◌, ◌≡◌, take}
use Rattle.lists.specs.Lists.{count, put}
use Rattle.text.specs.Text.{sign, filled}
use Rattle.text.proofs.fill_template.Given as goal

abbrev pub invariant-loop-byte : goal.invariant-loop-byte
invariant-loop-byte l =
    let text = filled (take l.byte-index l.template) l.values in
    (l.next ≡ count sign (take l.byte-index l.template)) × (l.end ≡ l.at + length text) × (l.out ≡ put l.initial.out l.at text)
