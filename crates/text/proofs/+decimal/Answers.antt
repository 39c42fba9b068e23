use Rattle.std.proofs.Common.{arith, ◌≡◌, sym, ap, ◌∙◌, ◌+◌, ◌/◌, length}
use Rattle.lists.specs.Lists.{put}
use Rattle.lists.proofs.Writes.{stored_entry, written_entry}
use Rattle.text.specs.Text.{decimal}
use Rattle.text.proofs.DecimalLaws.{decimal_small, decimal-large, length_small, length-large}
use Rattle.text.proofs.+decimal.Goals as goal

pub bounds-out-at : goal.bounds-out-at
bounds-out-at t c = omega (arith, c.requires, length_small c.args.value (omega arith))

pub returns-then-value-lt10 : goal.returns-then-value-lt10
returns-then-value-lt10 t c =
    let small : length (decimal c.args.value) ≡ 1 = length_small c.args.value (omega arith) in
    rw (decimal_small c.args.value (omega arith)) (written_entry c.args.out.now c.args.at _ (omega arith))

pub decimal-last-requires : goal.decimal-last-requires
decimal-last-requires t c =
    let long : length (decimal c.args.value) ≡ length (decimal (c.args.value / 10)) + 1 = length-large c.args.value (omega arith) in
    (omega arith, omega arith)

pub bounds-out-last : goal.bounds-out-last
bounds-out-last t c = omega (arith, length-large c.args.value (omega arith))

pub overflow_add-result-2 : goal.overflow_add-result-2
overflow_add-result-2 t c = record { fits = omega (arith, length-large c.args.value (omega arith)) }

-- The digits before the last are written: they are one fewer.
pub returns : goal.returns
returns t c =
    let long : length (decimal c.args.value) ≡ length (decimal (c.args.value / 10)) + 1 = length-large c.args.value (omega arith) in (
      omega arith,
      stored_entry c.args.out.now c.args.at (decimal (c.args.value / 10)) c.decimal-last.ensures.1 c.decimal-last.ensures.0 _ (omega arith)
          ∙ ap (put c.args.out.now c.args.at) (sym (decimal-large c.args.value (omega arith))),
    )
