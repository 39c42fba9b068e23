-- The number of each refusal: the scope's, 1 to 9 because of the input and 10 to 14 because of the state lent; then those that orders of the change
-- requests add. No refusal has number 8: a repeated pair had it, until order 1.
-- Definitions only.
use Rattle.std.specs.Prelude.{ℕ}
use Rattle.refusals.specs.declared.Refusal.{Refusal}
use Rattle.refusals.specs.declared.Refusal.TheVariants.{FileTooShort, BusCount, Need, LineCount, FileTooLong, LineEnds, DegreeTooHigh, NoDenominator, TableTooShort, NoNetwork, NumeratorsTooShort, NoSuchBus, TextTooShort, OutOfOrder, BytesTooShort, NeedAboveDegree, NoSuchLine, WeightCount, Weight}

abbrev pub number_of : Refusal → ℕ
number_of FileTooShort = 1
number_of BusCount = 2
number_of Need = 3
number_of LineCount = 4
number_of FileTooLong = 5
number_of LineEnds = 6
number_of DegreeTooHigh = 7
number_of NoDenominator = 9
number_of TableTooShort = 10
number_of NoNetwork = 11
number_of NumeratorsTooShort = 12
number_of NoSuchBus = 13
number_of TextTooShort = 14
number_of OutOfOrder = 15
number_of BytesTooShort = 16
number_of NeedAboveDegree = 17
number_of NoSuchLine = 18
number_of WeightCount = 19
number_of Weight = 20
