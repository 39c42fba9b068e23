use Rattle.std.proofs.Common.{sym, ◌∙◌}
use Rattle.reader.proofs.read_records.Goals as goal

pub invariant_of-sorted : goal.invariant_of-sorted
invariant_of-sorted c =
    record {
      few = (c.requires.0, c.requires.2);
      sound = sym c.sound_ends.ensures ∙ c.if-not-sound_ends.false;
      sorted = sym c.out_of_order.ensures ∙ c.if-out_of_order.false;
    }
