use Rattle.std.proofs.Common.{arith, ◌+◌, ◌≤◌, ◌<◌, ap, length, List, ℕ, ℤ}
use Rattle.lists.proofs.Writes.{written_start, written_next, written_done, written_fits}
use Rattle.signed.specs.Signed.{signed_at}
use Rattle.outage_report.specs.OutageReport.{line_of, lines_of}
use Rattle.outage_report.specs.ChangeRoom.{Small, longest_changes}
use Rattle.outage_report.proofs.ChangeFits.{lines_fit, small_read}
use Rattle.outage_report.proofs.write_changes.Goals as goal

-- the lines fit
inside : {changes : List ℤ} {n : ℕ} → Small changes × (longest_changes ≤ n) → 0 + length (lines_of changes) ≤ n
inside h = omega (arith, lines_fit h.0, h.1)

pub loop-bus-init : goal.loop-bus-init
loop-bus-init c = written_start _ _ _

pub write_change-end-requires : goal.write_change-end-requires
unfolding signed_at
write_change-end-requires c =
    let l : c.loop-bus.bus < length c.args.changes.now = omega arith in
    written_fits _ _ _ c.loop-bus.invariant _ (inside c.requires) l (ap (line_of c.loop-bus.bus) (small_read c.requires.0 c.loop-bus.bus l))

pub loop-bus-preserved : goal.loop-bus-preserved
unfolding signed_at
loop-bus-preserved c =
    let l : c.loop-bus.bus < length c.args.changes.now = omega arith in
    written_next _ _ _ c.loop-bus.invariant (omega arith) (ap (line_of c.loop-bus.bus) (small_read c.requires.0 c.loop-bus.bus l)) c.write_change-end.ensures

pub returns-clause-upper_bound : goal.returns-clause-upper_bound
returns-clause-upper_bound c =
    let w = written_done _ _ _ c.loop-bus.invariant (length c.args.changes.now) (omega arith) (omega arith) in
    omega (arith, w.0, lines_fit c.requires.0)
