-- Small fractions, the widest ones, and common multiples, computed.
use Rattle.std.specs.Prelude.{[], ◌∷◌, ◌≡◌, refl, ◌-◌, ◌^◌}
use Rattle.refusals.specs.Outcomes.{gives, refuses}
use Rattle.fraction.specs.Divisors.{gcd_of, lcm_of, lcm_all}
use Rattle.fraction.specs.Cancel.{cancel_outcome}

eight_sixths : cancel_outcome 8 6 ≡ gives (4, 3)
unfolding cancel_outcome
eight_sixths = refl

no_fifths : cancel_outcome 0 5 ≡ gives (0, 1)
unfolding cancel_outcome
no_fifths = refl

nothing_over_nothing : cancel_outcome 0 0 ≡ refuses 9
unfolding cancel_outcome
nothing_over_nothing = refl

seven_over_nothing : cancel_outcome 7 0 ≡ refuses 9
unfolding cancel_outcome
seven_over_nothing = refl

widest : cancel_outcome (2 ^ 64 - 1) (2 ^ 64 - 1) ≡ gives (1, 1)
unfolding cancel_outcome
widest = refl

widest_twos : cancel_outcome (2 ^ 63) (2 ^ 64 - 2) ≡ gives (2 ^ 62, 2 ^ 63 - 1)
unfolding cancel_outcome
widest_twos = refl

-- every number divides 0, and the one that all of them divide is 0
gcd_of_zeros : gcd_of 0 0 ≡ 0
unfolding gcd_of
gcd_of_zeros = refl

four_and_six : lcm_of 4 6 ≡ 12
unfolding lcm_of
four_and_six = refl

one_to_three : lcm_all (1 ∷ 2 ∷ 3 ∷ []) ≡ 6
unfolding lcm_all
one_to_three = refl

in_any_order : lcm_all (6 ∷ 4 ∷ 6 ∷ 1 ∷ []) ≡ 12
unfolding lcm_all
in_any_order = refl

of_none : lcm_all [] ≡ 1
unfolding lcm_all
of_none = refl
