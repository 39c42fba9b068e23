-- Laws of sums, tests, counts and lists.
--
-- Names of laws, in every crate: what the law is about, and then what it says, by one of these words where it is one of these. A word that names a
-- definition is joined by a dash, a plain word by an underscore.
--   le, pos              it is at most something; it is above zero
--   none, one, all       of nothing, of one, of everything
--   start, next, done    at a loop's start, after an iteration more, at the loop's end
--   at, in               its entry at a place; its members
--   append, cons, map    of lists joined, with a first member more, of mapped members
--   cong, same           equal where what it is made of is equal, everywhere or where it matters
--   grows                no less where there is more of what it goes by
--   fits                 there is space for it
--   facts, test          a test that passes gives the facts; where the facts hold, the test passes
--   by                   it is so, by something that makes it so
--   read                 as code reads it, into numbers and slices of its own
--   least                the law of a least common multiple
-- A name that begins with length, at, count, has, in or of is about the length, entries, counts or members of what follows.
pub mod Chains
pub mod Counts
pub mod JoinBelow
pub mod ListBelow
pub mod Loops
pub mod Places
pub mod Sums
pub mod SumsBelow
pub mod Tests
pub mod Without
pub mod Writes
