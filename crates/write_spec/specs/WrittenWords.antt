-- Two-byte numbers are read as they were written, and bytes are written as they were read; so are the records of pairs, which are two such numbers each.
use Rattle.std.specs.Prelude.{List, ℕ}
use Rattle.lists.specs.Below.{join_below}
use Rattle.write_spec.specs.FileOf.{record_of}

-- ---- the records of m pairs, whose buses are a 0 and b 0, a 1 and b 1, .. up to a (m - 1) and b (m - 1)

abbrev pub listed : (ℕ → ℕ) → (ℕ → ℕ) → ℕ → List ℕ
listed a b m = join_below m (λ k. record_of (a k) (b k))
