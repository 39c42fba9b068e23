-- Greatest common divisors and least common multiples: what they are, and how they are computed.
-- Definitions only.
use Rattle.std.specs.Prelude.{List, [], ◌∷◌, ℕ, zero, suc, ◌*◌, ◌/◌, ◌%◌}
use Rattle.std.specs.Int.{◌∣◌}
use Rattle.lists.specs.Lists.{◌∈◌}

-- g divides a and b, and every number that divides both divides g
pub record IsGcd (a b g : ℕ) : Type 0 where
  pub left : g ∣ a
  pub right : g ∣ b
  pub greatest : (d : ℕ) → d ∣ a → d ∣ b → d ∣ g

-- Euclid's rule, for at most n steps
unfoldable pub euclid : ℕ → ℕ → ℕ → ℕ
euclid zero a b = a
euclid (suc n) a zero = a
euclid (suc n) a (suc b) = euclid n (suc b) (a % suc b)

-- the greatest common divisor by Euclid's rule, for which b steps are enough
unfoldable pub gcd_of : ℕ → ℕ → ℕ
unfolding euclid
gcd_of a b = euclid b a b

-- a and b divide m, and m divides every number that both divide
pub record IsLcm (a b m : ℕ) : Type 0 where
  pub left : a ∣ m
  pub right : b ∣ m
  pub least : (n : ℕ) → a ∣ n → b ∣ n → m ∣ n

-- the least common multiple: the product, with the greatest common divisor taken out once
unfoldable pub lcm_of : ℕ → ℕ → ℕ
unfolding gcd_of
lcm_of a b = a / gcd_of a b * b

-- the least common multiple of all numbers of a list; that of none is 1
unfoldable pub lcm_all : List ℕ → ℕ
unfolding lcm_of
lcm_all [] = 1
lcm_all (x ∷ l) = lcm_of x (lcm_all l)

-- every number of a list divides m
abbrev pub CommonMultiple : List ℕ → ℕ → Type 0
CommonMultiple l m = (x : ℕ) → x ∈ l → x ∣ m
