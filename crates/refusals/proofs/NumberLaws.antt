-- Each refusal has a number of its own, above zero.
use Rattle.std.specs.Prelude.{cond, List, [], ◌∷◌, ◌≡◌, refl, ℕ, zero, suc, ◌<◌, eqb}
use Rattle.std.proofs.Common.{sym, ap, ◌∙◌, arith}
use Rattle.refusals.specs.declared.Refusal.{Refusal}
use Rattle.refusals.specs.declared.Refusal.TheVariants.{FileTooShort, BusCount, Need, LineCount, FileTooLong, LineEnds, DegreeTooHigh, NoDenominator, TableTooShort, NoNetwork, NumeratorsTooShort, NoSuchBus, TextTooShort, OutOfOrder, BytesTooShort, NeedAboveDegree, NoSuchLine, WeightCount, Weight}
use Rattle.refusals.specs.Numbers.{number_of}

-- all refusals
refusals : List Refusal
refusals = FileTooShort ∷ BusCount ∷ Need ∷ LineCount ∷ FileTooLong ∷ LineEnds ∷ DegreeTooHigh ∷ NoDenominator ∷ TableTooShort ∷ NoNetwork ∷ NumeratorsTooShort ∷ NoSuchBus ∷ TextTooShort ∷ OutOfOrder ∷ BytesTooShort ∷ NeedAboveDegree ∷ NoSuchLine ∷ WeightCount ∷ Weight ∷ []

-- the first of number k
of_number : ℕ → List Refusal → Refusal
of_number k [] = TextTooShort
of_number k (r ∷ rs) = cond (eqb (number_of r) k) r (of_number k rs)

named : ℕ → Refusal
named k = of_number k refusals

back : (r : Refusal) → named (number_of r) ≡ r
unfolding named refusals of_number
back FileTooShort = refl
back BusCount = refl
back Need = refl
back LineCount = refl
back FileTooLong = refl
back LineEnds = refl
back DegreeTooHigh = refl
back NoDenominator = refl
back TableTooShort = refl
back NoNetwork = refl
back NumeratorsTooShort = refl
back NoSuchBus = refl
back TextTooShort = refl
back OutOfOrder = refl
back BytesTooShort = refl
back NeedAboveDegree = refl
back NoSuchLine = refl
back WeightCount = refl
back Weight = refl

-- no two refusals have one number
pub number_injective : (a b : Refusal) → number_of a ≡ number_of b → a ≡ b
number_injective a b e = sym (back a) ∙ ap named e ∙ back b

-- and none has number 0
pub number_pos : (r : Refusal) → 0 < number_of r
unfolding named refusals of_number
number_pos r = go (number_of r) (back r) refl
  where
    go : (k : ℕ) → named k ≡ r → k ≡ number_of r → 0 < k
    go zero first e = let one = ap number_of first in omega arith
    go (suc k) other e = omega arith
