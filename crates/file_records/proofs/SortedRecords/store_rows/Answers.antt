use Rattle.std.proofs.Common.{◌++◌, ◌+◌, ◌-◌, ◌≤◌, length, take, drop, ap, ◌∙◌, arith}
use Rattle.lists.specs.Below.{join_below}
use Rattle.lists.proofs.Places.{length_part}
use Rattle.lists.proofs.Writes.{put_whole}
use Rattle.file_spec.specs.Records.{neighbours}
use Rattle.file_records.proofs.RecordLaws.{ordered}
use Rattle.file_records.proofs.StoringRows.{laid-counted, numbers-counted, numbers-le, growing_start, laid-stored}
use Rattle.file_records.proofs.SortedRecords.store_rows.Goals as goal

pub store_starts-numbers-requires-clause-n_le_max_buses : goal.store_starts-numbers-requires-clause-n_le_max_buses
store_starts-numbers-requires-clause-n_le_max_buses c =
    (c.args.self.now.few.0, omega (arith, laid-counted c.requires.counted, c.requires.section_in_bounds))

pub store_starts-numbers-requires-clause-counts_len : goal.store_starts-numbers-requires-clause-counts_len
store_starts-numbers-requires-clause-counts_len c =
    let s = c.args.self.now in
    let h = c.requires.counted in
    (h.size, omega (arith, numbers-le h (ordered s)))

-- the rows end where the table has room
pub overflow_add-end : goal.overflow_add-end
overflow_add-end c =
    omega (arith, laid-counted c.requires.counted, c.store_starts-numbers.ensures.value.0, c.requires.section_in_bounds)

pub slice_bounds-fill_rows-end : goal.slice_bounds-fill_rows-end
slice_bounds-fill_rows-end c =
    omega (
      arith,
      laid-counted c.requires.counted,
      c.store_starts-numbers.ensures.value.0,
      c.requires.section_in_bounds,
      c.store_starts-numbers.auto.table,
    )

pub fill_rows-requires : goal.fill_rows-requires
fill_rows-requires c =
    let s = c.store_starts-numbers in
    let h = c.requires.counted in
    let first = c.args.from + c.args.self.now.buses + 1 in
    let fits : first + s.result ≤ length s.new.table =
    omega (arith, laid-counted h, s.ensures.value.0, c.requires.section_in_bounds, s.auto.table) in
    growing_start h s.ensures.value.1 (length_part first (first + s.result) s.new.table fits ∙ omega (arith, s.ensures.value.0))

pub returns : goal.returns
returns c =
    let s = c.store_starts-numbers in
    let a = c.args in
    let n = a.self.now.buses in
    let r = a.self.now.records in
    let h = c.requires.counted in
    let rows = join_below n (neighbours n r.count r.bytes.now) in
    let t = s.new.table in
    let first = a.from + n + 1 in
    let fits : first + s.result ≤ length t =
    omega (arith, laid-counted h, s.ensures.value.0, c.requires.section_in_bounds, s.auto.table) in
    laid-stored h a.table.now a.from (omega arith) s.ensures.table_after
    (ap (λ l. take first t ++ (l ++ drop (first + s.result - first) (drop first t))) c.fill_rows.ensures
    ∙ put_whole t first rows (omega (arith, s.ensures.value.0, numbers-counted h)))
