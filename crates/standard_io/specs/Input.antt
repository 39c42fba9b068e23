-- What a reading of the input answers. Definitions only.
use Rattle.std.specs.Prelude.{ℕ, ◌<◌, ◌≤◌, List, length, take, Ok, Err}
use Rattle.std.specs.Io.KnownBytes.{Consumes, IsAtEnd}
use Rattle.std.specs.declared.option.Option.{Option}
use Rattle.std.specs.declared.result.Result.{Result}

-- the bytes read, if there are any, are no more than a buffer has
abbrev pub Within : {E : Type 0} → Result ℕ E → ℕ → Type 0
Within (Ok n) most = n ≤ most
Within (Err error) most = Unit {0}

-- reading on, where it is known which bytes the input had before and has after: it took the bytes at the front of the buffer, and fewer than the buffer has room for only if none are left
abbrev pub ReadsAll : {E : Type 0} → Option (List ℕ) → Option (List ℕ) → Result ℕ E → List ℕ → Type 0
ReadsAll before after (Ok n) buffer = Consumes before after (take n buffer) × (n < length buffer → IsAtEnd after)
ReadsAll before after (Err error) buffer = Unit {0}
