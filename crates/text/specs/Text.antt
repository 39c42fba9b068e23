-- Text in ASCII: numbers in decimal, with a minus sign if below zero, and templates in which each `#` stands for a number.
-- Definitions only.
use Rattle.std.specs.Prelude.{Bool, true, false, cond, List, [], ◌∷◌, ◌++◌, ℕ, zero, suc, ◌+◌, ◌-◌, ◌*◌, ◌/◌, ◌%◌, ltb, eqb, ℤ, pos, negsuc, drop}
use Rattle.lists.specs.Lists.{indicator, at}

-- ---- numbers

abbrev pub digit : ℕ → ℕ
digit d = 48 + d

-- n in decimal: one digit if that is enough, and else those of a tenth of n and then its last digit; `more` bounds how many stand before the last
abbrev pub digits : ℕ → Bool → ℕ → List ℕ
digits zero enough n = digit n ∷ []
digits (suc more) true n = digit n ∷ []
digits (suc more) false n = digits more (ltb (n / 10) 10) (n / 10) ++ (digit (n % 10) ∷ [])

-- n in decimal without leading zeros; n is always bound enough
unfoldable pub decimal : ℕ → List ℕ
decimal n = digits n (ltb n 10) n

-- `-`
abbrev pub minus : ℕ
minus = 45

-- a signed number in decimal; one below zero has a minus sign in front
unfoldable pub signed_decimal : ℤ → List ℕ
signed_decimal (pos n) = decimal n
signed_decimal (negsuc n) = minus ∷ decimal (suc n)

-- the value of digits that stand behind those of a
abbrev pub digits_value : ℕ → List ℕ → ℕ
digits_value a [] = a
digits_value a (b ∷ l) = digits_value (a * 10 + (b - 48)) l

-- ---- templates

-- `#`
abbrev pub sign : ℕ
sign = 35

-- a template with its numbers: each `#` gives way to the next of them
unfoldable pub filled : List ℕ → List ℕ → List ℕ
filled [] values = []
filled (byte ∷ more) values =
    let is = eqb sign byte in
    cond is (decimal (at values 0)) (byte ∷ []) ++ filled more (drop (indicator is) values)
