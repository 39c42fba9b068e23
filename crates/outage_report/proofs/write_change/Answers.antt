use Rattle.std.proofs.Common.{arith, w64}
use Rattle.std.proofs.lemmas.Int.{to_z-of_z}
use Rattle.outage_report.proofs.ChangeWriting.{bus_fits, digits_fit, end_inside, line-written}
use Rattle.outage_report.proofs.write_change.Goals as goal

pub fill_template-from-requires : goal.fill_template-from-requires
fill_template-from-requires c = (omega arith, bus_fits c.args.bus c.args.change c.args.out.now c.args.at c.requires)

pub signed_decimal-end-requires : goal.signed_decimal-end-requires
signed_decimal-end-requires c =
    let read = to_z-of_z w64 _ c.ranges.change in
    digits_fit c.args.bus c.args.change c.args.out.now c.args.at c.requires c.fill_template-from.ensures read

pub bounds-out-end : goal.bounds-out-end
bounds-out-end c =
    let read = to_z-of_z w64 _ c.ranges.change in
    end_inside c.args.bus c.args.change c.args.out.now c.args.at c.requires c.fill_template-from.ensures read c.signed_decimal-end.ensures

pub overflow_add-result : goal.overflow_add-result
overflow_add-result c =
    let read = to_z-of_z w64 _ c.ranges.change in
    let w = line-written c.args.bus c.args.change c.args.out.now c.args.at c.requires c.fill_template-from.ensures read c.signed_decimal-end.ensures in
    record { fits = omega (arith, w.0, c.requires, c.well_formed) }

pub returns : goal.returns
returns c =
    let read = to_z-of_z w64 _ c.ranges.change in
    line-written c.args.bus c.args.change c.args.out.now c.args.at c.requires c.fill_template-from.ensures read c.signed_decimal-end.ensures
