-- What the loops of the writer write, and its calls one behind another, is the file.
use Rattle.std.proofs.Common.{Bool, true, false, cond, ◌&&◌, List, [], ◌++◌, append_assoc, ◌≡◌, sym, ap, subst, ◌∙◌, ℕ, ◌+◌, ◌*◌, ◌<◌, zero-le, arith, ltb, length, length-append}
use Rattle.std.proofs.Math.Bool.{and-true, and-false}
use Rattle.lists.specs.Lists.{has, WrittenAt}
use Rattle.lists.specs.Below.{join_below}
use Rattle.lists.proofs.JoinBelow.{join_below-same}
use Rattle.lists.proofs.ListBelow.{join_below_members}
use Rattle.lists.proofs.Writes.{written-append}
use Rattle.table_spec.specs.Layout.{bus_count, needs, weights, row, lines}
use Rattle.table_spec.specs.Holds.{ValidRow, Scorable, Holds}
use Rattle.table_spec.proofs.Rows.{valid_below, length-needs, row_valid}
use Rattle.write_spec.specs.FileOf.{word, record_of, pair_records, weight_section, file_of}
use Rattle.write_spec.proofs.PairLaws.{length-pair_records}
use Rattle.writer.specs.FileFront.{front_of}
use Rattle.writer.specs.RowRecords.{record_above, row_records}

-- a bus above another, if it stands in that one's row
above_first : (i j : ℕ) (b : Bool) → cond (ltb i j && b) (record_of i j) [] ≡ cond b (record_above i j) []
unfolding record_above
above_first i j true = ap (λ b. cond b (record_of i j) []) (and-true (ltb i j))
above_first i j false = ap (λ b. cond b (record_of i j) []) (and-false (ltb i j))

-- the records of all pairs are those of the rows, one behind another
pairs_by_row : (n : ℕ) (rows : ℕ → List ℕ) → ((i : ℕ) → i < n → ValidRow n i (rows i)) → pair_records n rows ≡ join_below n (λ i. row_records i (rows i))
unfolding pair_records row_records
pairs_by_row n rows valid =
    join_below-same _ _ n
    (λ i b. join_below-same _ _ n (λ j _. above_first i j (has j (rows i)))
    ∙ join_below_members (rows i) n (record_above i) (valid i b).ascends (valid_below (valid i b)))

-- so are those of a table, whose bus count was read into n
pub records_by_row : (t : List ℕ) {n : ℕ} → Scorable t → n ≡ bus_count t → pair_records (bus_count t) (row t) ≡ join_below n (λ i. row_records i (row t i))
records_by_row t w e =
    pairs_by_row (bus_count t) (row t) (row_valid w) ∙ ap (λ n. join_below n (λ i. row_records i (row t i))) (sym e)

-- so many bytes stand before the weights
pub length-front_of : (t : List ℕ) → Holds t → length (front_of t) ≡ 2 + bus_count t + 2 + 4 * lines t
unfolding front_of word
length-front_of t w =
    omega (arith, length-append (needs t) (word (lines t) ++ pair_records (bus_count t) (row t)), length-needs t w.shape.complete, length-pair_records t w)

-- the sections of the file up to there were written one behind another at the front of x; code has the bus count as n, the needs as q, the number of
-- lines as m
pub front_written : (t x : List ℕ) {n m a b c e : ℕ} {q x₁ x₂ x₃ y : List ℕ} → n ≡ bus_count t → q ≡ needs t → m ≡ lines t
    → WrittenAt (word n) 0 x a x₁ → WrittenAt q a x₁ b x₂ → WrittenAt (word m) b x₂ c x₃ → WrittenAt (pair_records (bus_count t) (row t)) c x₃ e y
    → WrittenAt (front_of t) 0 x e y
unfolding front_of
front_written t x {n} {m} {e = e} {q = q} {y = y} en eq em first second third last =
    let pairs = pair_records (bus_count t) (row t) in
    let buses = written-append x 0 (word n) q zero-le first second in
    let counts = written-append x 0 (word n ++ q) (word m) zero-le buses third in
    let all = written-append x 0 ((word n ++ q) ++ word m) pairs zero-le counts last in
    subst (λ l. WrittenAt l 0 x e y) (rw (en, eq, em) (simp append_assoc)) all

-- and then the weights, which code has as w
pub file-written : (t x : List ℕ) {a e : ℕ} {w x₁ y : List ℕ} → w ≡ weights t → WrittenAt (front_of t) 0 x a x₁ → WrittenAt (weight_section w) a x₁ e y → WrittenAt (file_of t) 0 x e y
unfolding front_of file_of
file-written t x {e = e} {w = w} {y = y} ew first last =
    subst (λ l. WrittenAt l 0 x e y) (rw ew (simp append_assoc)) (written-append x 0 (front_of t) (weight_section w) zero-le first last)
