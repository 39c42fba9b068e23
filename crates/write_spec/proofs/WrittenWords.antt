-- Two-byte numbers are read as they were written, and bytes are written as they were read; so are the records of pairs, which are two such numbers each.
use Rattle.std.specs.Prelude.{cond, List, [], ◌∷◌, ◌++◌, ◌≡◌, ℕ, zero, suc, ◌+◌, ◌-◌, ◌*◌, ◌/◌, ◌%◌, ◌≤◌, ◌<◌, ltb, eqb, length, take, drop}
use Rattle.std.proofs.Math.Path.{refl, ap}
use Rattle.std.proofs.Common.{sym, ap₂, ◌∙◌, add-one, ltb-true, ltb-false, eq-eqb, ne_eqb, length-take, drop-cons}
use native.Mathlib.Omega.{arith}
use Rattle.std.proofs.Math.ListN.{get_or-eq_default}
use Rattle.lists.specs.Lists.{at, part}
use Rattle.lists.specs.Below.{sum_below, join_below}
use Rattle.lists.proofs.Tests.{split}
use Rattle.lists.proofs.Places.{at-behind, at_part}
use Rattle.lists.proofs.SumsBelow.{sum_below_const}
use Rattle.lists.proofs.JoinBelow.{length-join_below, at-join_below, join_below_by, join_below-same, join_below-times}
use Rattle.file_spec.specs.FileBytes.{word_at, first_end, second_end}
use Rattle.write_spec.specs.FileOf.{word, words, record_of}
use Rattle.write_spec.specs.RoundTrip.{AreBytes}
use Rattle.write_spec.specs.WrittenWords.{listed}

-- a part of bytes
pub part_bytes : (a e : ℕ) (f : List ℕ) → AreBytes f → AreBytes (part a e f)
unfolding at
part_bytes a e f bytes k =
    split (ltb k (e - a))
    (λ t. omega (arith, at_part a e f k (ltb-true k (e - a) t), bytes (a + k)))
    (λ t. omega (arith, get_or-eq_default (part a e f) 0 {n = k} (omega (arith, ltb-false k (e - a) t, length-take (e - a) (drop a f)))))

-- ---- one number

-- a number that was written is read
pub word-front : (x : ℕ) (l : List ℕ) → word_at (word x ++ l) 0 ≡ x
unfolding word_at word at
word-front x l = omega arith

-- what stands in front moves the place
pub word-behind : (l m : List ℕ) (k : ℕ) {i : ℕ} → i ≡ length l + k → word_at (l ++ m) i ≡ word_at m k
unfolding word_at
word-behind l m k {i} e =
    let f : i + 1 ≡ length l + (k + 1) = omega arith in
    ap₂ (λ x y. x + y * 256) (ap (at (l ++ m)) e ∙ at-behind l m k) (ap (at (l ++ m)) f ∙ at-behind l m (k + 1))

-- a number that was read is written
pub word_again : (f : List ℕ) (i : ℕ) → AreBytes f → i + 2 ≤ length f → word (word_at f i) ≡ part i (i + 2) f
unfolding word_at word at
word_again f i bytes h =
    let low : word_at f i % 256 ≡ at f i = omega (arith, bytes i, bytes (i + 1)) in
    let high : word_at f i / 256 ≡ at f (i + 1) = omega (arith, bytes i, bytes (i + 1)) in
    let two : 2 ≡ i + 2 - i = omega arith in
    ap₂ (λ x y. x ∷ y ∷ []) low (high ∙ ap (at f) (add-one i))
    ∙ sym (ap (take 2) (drop-cons f i 0 (omega arith) ∙ ap (λ l. at f i ∷ l) (drop-cons f (suc i) 0 (omega arith))))
    ∙ ap (λ k. take k (drop i f)) two

-- ---- g 0, g 1, .. up to g (n - 1)

abbrev words_below : ℕ → (ℕ → ℕ) → List ℕ
words_below n g = join_below n (λ i. word (g i))

length-words_below : (n : ℕ) (g : ℕ → ℕ) → length (words_below n g) ≡ 2 * n
unfolding word
length-words_below n g = length-join_below n (λ i. word (g i)) ∙ sum_below_const 2 n ∙ omega arith

-- byte j of number i
byte_at : (g : ℕ → ℕ) (n : ℕ) {i : ℕ} → i < n → (j : ℕ) {k : ℕ} → k ≡ 2 * i + j → j < 2 → at (words_below n g) k ≡ at (word (g i)) j
unfolding word
byte_at g n {i} h j e l = ap (at (words_below n g)) (e ∙ ap (λ s. s + j) (sym (length-words_below i g))) ∙ at-join_below (λ i. word (g i)) n h j l

words_below-written : (g : ℕ → ℕ) (n : ℕ) {i k : ℕ} → i < n → k ≡ 2 * i → word_at (words_below n g) k ≡ g i
unfolding word_at word at
words_below-written g n {i} {k} h e = omega (arith, byte_at g n h 0 {k = k} (omega arith) (omega arith), byte_at g n h 1 {k = k + 1} (omega arith) (omega arith))

byte_again : (b : List ℕ) → AreBytes b → (i j : ℕ) {k : ℕ} → k ≡ 2 * i + j → j < 2 → at b k ≡ at (word (word_at b (2 * i))) j
unfolding word_at word at
byte_again b bytes i zero {k} e l = let q : k ≡ 2 * i = omega (arith, e) in omega (arith, ap (at b) q, bytes (2 * i), bytes (2 * i + 1))
byte_again b bytes i (suc zero) e l = omega (arith, ap (at b) e, bytes (2 * i), bytes (2 * i + 1))
byte_again b bytes i (suc (suc j)) e l = absurd (omega arith)

-- bytes, two for each of n numbers, are these numbers
words_below_again : (n : ℕ) (b : List ℕ) → length b ≡ 2 * n → AreBytes b → words_below n (λ i. word_at b (2 * i)) ≡ b
unfolding word
words_below_again n b e bytes =
    let two : (k : ℕ) → sum_below k (λ x. 2) ≡ 2 * k = λ k. sum_below_const 2 k ∙ omega arith in
    sym
    (join_below_by (λ k. 2) (λ i. word (word_at b (2 * i))) n {l = b} (λ i h. refl) (e ∙ sym (two n)) (λ i j h l. byte_again b bytes i j (ap (λ s. s + j) (two i)) l))

-- ---- the numbers of a list

module _ (l : List ℕ) where
  pub length-words : length (words l) ≡ 2 * length l
  unfolding words
  length-words = length-words_below (length l) (at l)

  pub words-written : {i : ℕ} → i < length l → word_at (words l) (2 * i) ≡ at l i
  unfolding words
  words-written h = words_below-written (at l) (length l) h refl

  -- a list of what bytes have, two for each number, is these bytes
  pub words_again : (b : List ℕ) → length b ≡ 2 * length l → AreBytes b → ((i : ℕ) → i < length l → at l i ≡ word_at b (2 * i)) → words l ≡ b
  unfolding words
  words_again b e bytes h = join_below-same _ _ (length l) (λ i k. ap word (h i k)) ∙ words_below_again (length l) b e bytes

-- ---- the records of m pairs, whose buses are a 0 and b 0, a 1 and b 1, .. up to a (m - 1) and b (m - 1)

-- the numbers g 0, g 1, .. by twos
words_below_paired : (m : ℕ) (g : ℕ → ℕ) → listed (λ k. g (2 * k)) (λ k. g (2 * k + 1)) m ≡ words_below (m * 2) g
unfolding record_of join_below
words_below_paired m g =
    join_below-same _ _ m (λ k h. let first : 2 * k ≡ k * 2 + 0 = omega arith in let second : 2 * k + 1 ≡ k * 2 + 1 = omega arith in ap₂ (λ x y. word (g x) ++ word (g y)) first second)
    ∙ sym (join_below-times m 2 (λ i. word (g i)))

module _ (a b : ℕ → ℕ) where
  -- a 0, b 0, a 1, b 1, ..
  mixed : ℕ → ℕ
  mixed i = cond (eqb (i % 2) 0) (a (i / 2)) (b (i / 2))

  mixed_even : (k : ℕ) → mixed (2 * k) ≡ a k
  unfolding mixed
  mixed_even k = let q : 2 * k / 2 ≡ k = omega arith in rw (eq-eqb (2 * k % 2) 0 (omega arith)) (ap a q)

  mixed_odd : (k : ℕ) → mixed (2 * k + 1) ≡ b k
  unfolding mixed
  mixed_odd k = let q : (2 * k + 1) / 2 ≡ k = omega arith in rw (ne_eqb ((2 * k + 1) % 2) 0 (omega arith)) (ap b q)

  listed-words : (m : ℕ) → listed a b m ≡ words_below (m * 2) mixed
  listed-words m = join_below-same _ _ m (λ k h. ap₂ record_of (sym (mixed_even k)) (sym (mixed_odd k))) ∙ words_below_paired m mixed

  pub length-listed : (m : ℕ) → length (listed a b m) ≡ 4 * m
  length-listed m = ap length (listed-words m) ∙ length-words_below (m * 2) mixed ∙ omega arith

  module _ (m : ℕ) {k : ℕ} (h : k < m) where
    pub first-written : first_end (listed a b m) k ≡ a k
    first-written = ap (λ l. word_at l (4 * k)) (listed-words m) ∙ words_below-written mixed (m * 2) {i = 2 * k} (omega arith) (omega arith) ∙ mixed_even k

    pub second_written : second_end (listed a b m) k ≡ b k
    second_written = ap (λ l. word_at l (4 * k + 2)) (listed-words m) ∙ words_below-written mixed (m * 2) {i = 2 * k + 1} (omega arith) (omega arith) ∙ mixed_odd k

-- bytes, four for each of m records, are the records of the pairs that they name
pub records-listed : (m : ℕ) (r : List ℕ) → length r ≡ 4 * m → AreBytes r → listed (first_end r) (second_end r) m ≡ r
records-listed m r e bytes =
    join_below-same _ _ m (λ k h. let first : 4 * k ≡ 2 * (2 * k) = omega arith in let second : 4 * k + 2 ≡ 2 * (2 * k + 1) = omega arith in ap₂ (λ x y. record_of (word_at r x) (word_at r y)) first second)
    ∙ words_below_paired m (λ i. word_at r (2 * i))
    ∙ words_below_again (m * 2) r (omega arith) bytes
