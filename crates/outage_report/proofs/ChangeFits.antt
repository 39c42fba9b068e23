-- The lines of small changes have no more bytes than `longest_changes`.
use Rattle.std.specs.Prelude.{List, ◌≡◌, ℕ, ◌*◌, ◌≤◌, ◌<◌, ℤ, nat_abs, length}
use Rattle.std.proofs.Common.{arith, length-append, to_z, of_z}
use Rattle.std.specs.Int.{w64}
use Rattle.std.proofs.lemmas.Int.{to_z-of_z}
use Rattle.lists.proofs.SumsBelow.{sum_below-le, sum_below_const}
use Rattle.lists.proofs.JoinBelow.{length-join_below}
use Rattle.signed.specs.Signed.{signed_at}
use Rattle.signed.proofs.SignedBits.{mag_le}
use Rattle.text.proofs.DecimalLaws.{decimal-le}
use Rattle.text.proofs.SignedDecimal.{signed_decimal-le}
use Rattle.table_spec.specs.Limits.{max_buses, max_weight}
use Rattle.share_spec.specs.TableNetwork.{max_denominator}
use Rattle.outage_report.specs.OutageReport.{line_of, lines_of}
use Rattle.outage_report.specs.ChangeRoom.{Small, longest_change, longest_changes}

line_fits : (v : ℕ) (z : ℤ) → v < max_buses → nat_abs z ≤ 2 * max_weight * max_denominator → length (line_of v z) ≤ longest_change
line_fits v z b h =
    simp length-append (omega (arith, decimal-le 2 v (omega arith), signed_decimal-le 13 z (omega arith)))

-- THEIR LINES FIT
pub lines_fit : {changes : List ℤ} → Small changes → length (lines_of changes) ≤ longest_changes
lines_fit {changes} w =
    let n = length changes in
    let text : ℕ → List ℕ = λ v. line_of v (signed_at changes v) in
    omega (
      arith,
      length-join_below n text,
      sum_below-le (λ v. length (text v)) (λ v. longest_change) n (λ v l. line_fits v (signed_at changes v) (omega (arith, w.most)) (w.each v l)),
      sum_below_const longest_change n,
      w.most,
    )

-- and each is read back as it was
pub small_read : {changes : List ℤ} → Small changes → (v : ℕ) → v < length changes → to_z w64 (of_z w64 (signed_at changes v)) ≡ signed_at changes v
small_read {changes} w v l = to_z-of_z w64 _ (record { sfits = omega (arith, mag_le (signed_at changes v), w.each v l) })
