use Rattle.std.proofs.Common.{arith, ◌≡◌, ◌+◌, ◌≤◌, refl, ap, [], ◌∷◌, length, length-set, w64}
use Rattle.std.proofs.lemmas.Int.{to_z-of_z}
use Rattle.lists.proofs.Writes.{written_entry, written-append}
use Rattle.text.specs.Text.{decimal, minus, signed_decimal}
use Rattle.text.proofs.DecimalLaws.{smaller_fits}
use Rattle.text.proofs.SignedDecimal.{signed_below, signed_above}
use Rattle.text.proofs.signed_decimal.Goals as goal

pub bounds-out-at : goal.bounds-out-at
bounds-out-at c = omega (arith, ap length (signed_below c.args.value (to_z-of_z w64 _ c.ranges.value) c.is_negative.ensures refl c.if-is_negative.true))

pub decimal-requires : goal.decimal-requires
decimal-requires c =
    smaller_fits _ c.unsigned_abs.result (omega arith)
    (omega (arith, ap length (signed_below c.args.value (to_z-of_z w64 _ c.ranges.value) c.is_negative.ensures c.unsigned_abs.ensures.value c.if-is_negative.true), length-set c.args.out.now c.args.at minus))

-- The magnitude is written behind the sign.
pub returns-then-is_negative : goal.returns-then-is_negative
returns-then-is_negative c =
    let below : signed_decimal c.args.value ≡ minus ∷ decimal c.unsigned_abs.result =
    signed_below c.args.value (to_z-of_z w64 _ c.ranges.value) c.is_negative.ensures c.unsigned_abs.ensures.value c.if-is_negative.true in
    let inside : c.args.at + (1 + length (decimal c.unsigned_abs.result)) ≤ length c.args.out.now = omega (arith, ap length below) in
    rw below (written-append c.args.out.now c.args.at (minus ∷ []) _ (omega arith) (written_entry c.args.out.now c.args.at minus (omega arith)) c.decimal.ensures)

pub decimal-requires-2 : goal.decimal-requires-2
decimal-requires-2 c = omega (arith, ap length (signed_above c.args.value (to_z-of_z w64 _ c.ranges.value) c.is_negative.ensures c.unsigned_abs-2.ensures.value c.if-is_negative.false))

pub returns : goal.returns
returns c = rw (signed_above c.args.value (to_z-of_z w64 _ c.ranges.value) c.is_negative.ensures c.unsigned_abs-2.ensures.value c.if-is_negative.false) c.decimal-2.ensures
