-- The weights of a file are read as they were written, whether their section stands behind the records or is left out, and written as they were read.
use Rattle.std.specs.Prelude.{true, false, cond, ◌≡◌, ℕ, ◌+◌, ◌-◌, ◌*◌, ◌≤◌, ◌<◌}
use mathlib.Core.List.{List, [], ◌++◌, append_assoc, append-nil}
use Rattle.std.proofs.Common.{⊎_elim, ◌∙◌, arith}
use Rattle.std.proofs.Math.Path.{sym, ap, ap₂}
use borrow.Author.Tests.{eqb-true, eq-eqb}
use Rattle.std.proofs.Math.ListN.{length, drop, length-append, length-drop}
use Rattle.std.proofs.Math.Seq.{take_all, drop-length}
use Rattle.lists.specs.Lists.{at, part}
use Rattle.lists.specs.Below.{map_below}
use Rattle.lists.proofs.Tests.{split}
use Rattle.lists.proofs.Loops.{all_below-at, all_below_by}
use Rattle.lists.proofs.Places.{part_between, part-drop}
use Rattle.lists.proofs.JoinBelow.{length-map_below, map_below-at, map_below-same, map_below-entries}
use Rattle.file_spec.specs.FileBytes.{word_at, file_bus_count, records_end, file_weight_count, weights_at, weights_end, weight_bytes, weight_in, file_weights}
use Rattle.file_spec.proofs.WeightBytes.{weight-none, weight-word, weight_bytes-none, length-weight_bytes}
use Rattle.file_spec.specs.SoundSections.{SoundWeightSection, SoundSections}
use Rattle.file_spec.proofs.SoundSections.{ends}
use Rattle.write_spec.specs.FileOf.{word, words, all_ones, weight_section}
use Rattle.write_spec.specs.RoundTrip.{AreBytes, NoOnesSection}
use Rattle.write_spec.proofs.WrittenWords.{part_bytes, word-front, word-behind, word_again, length-words, words-written, words_again}
use Rattle.write_spec.proofs.WrittenBytes.{file, buses_written, lines-written, front, length_sections, to_rest, length_to_rest}

-- ---- the section of the weights w

module _ (w : List ℕ) where
  ones_at : all_ones w ≡ true → (i : ℕ) → i < length w → at w i ≡ 1
  unfolding all_ones
  ones_at e i h = eqb-true (at w i) 1 (all_below-at _ (length w) e h)

  pub ones_by : ((i : ℕ) → i < length w → at w i ≡ 1) → all_ones w ≡ true
  unfolding all_ones
  ones_by h = all_below_by _ (length w) (λ i l. eq-eqb (at w i) 1 (h i l))

  pub section_none : all_ones w ≡ true → weight_section w ≡ []
  unfolding weight_section
  section_none e = rw e

  pub section_some : all_ones w ≡ false → weight_section w ≡ word (length w) ++ words w
  unfolding weight_section
  section_some e = rw e

  -- how many bytes it has
  pub length_section : length (weight_section w) ≡ cond (all_ones w) 0 (2 + 2 * length w)
  unfolding word
  length_section =
      split (all_ones w)
      (λ e. rw e (ap length (section_none e)))
      (λ e. rw e (ap length (section_some e) ∙ omega (arith, length-words w)))

-- ---- read as they were written

-- n buses with the needs q, m records r and the weights w
module _ (n m : ℕ) (q r w : List ℕ) (buses : length q ≡ n) (lines : length r ≡ 4 * m) (wide : length w ≡ n) (some : 1 ≤ n) where
  abbrev f : List ℕ
  f = file n m q r (weight_section w)

  size : length f ≡ records_end f + length (weight_section w)
  size = omega (arith, length_sections n m q r (weight_section w) buses lines, buses_written n m q r (weight_section w), lines-written n m q r (weight_section w) buses)

  -- their section is left out
  weight-one : all_ones w ≡ true → (i : ℕ) → i < n → weight_in (weight_bytes f) i ≡ at w i
  weight-one e i h =
      weight-none (weight_bytes f) (ap length (weight_bytes-none f (omega (arith, size, ap length (section_none w e))))) i ∙ sym (ones_at w e i (omega arith))

  -- it stands there
  module _ (e : all_ones w ≡ false) where
    -- what stands before it, and what follows the count
    abbrev before : List ℕ
    before = front n m q r (weight_section w) buses lines ++ r

    abbrev ws : List ℕ
    ws = words w

    shape : f ≡ before ++ (word (length w) ++ ws)
    shape = to_rest n m q r (weight_section w) buses lines ∙ ap (λ l. before ++ l) (section_some w e)

    length_before : length before ≡ records_end f
    length_before = length_to_rest n m q r (weight_section w) buses lines

    pub count-written : file_weight_count f ≡ file_bus_count f
    count-written =
        ap (λ l. word_at l (records_end f)) shape
        ∙ word-behind before (word (length w) ++ ws) 0 (omega (arith, length_before))
        ∙ word-front (length w) ws
        ∙ wide
        ∙ sym (buses_written n m q r (weight_section w))

    bytes_written : weight_bytes f ≡ ws
    unfolding weight_bytes word
    bytes_written =
        ap (part (weights_at f) (weights_end f))
        (shape ∙ sym (append_assoc before (word (length w)) ws) ∙ ap (λ l. (before ++ word (length w)) ++ l) (sym (append-nil ws)))
        ∙ part_between (before ++ word (length w)) ws [] {a = weights_at f} {e = weights_end f}
        (omega (arith, length_before, length-append before (word (length w))))
        (omega (arith, buses_written n m q r (weight_section w), length-words w, wide))

    weight_other : (i : ℕ) → i < n → weight_in (weight_bytes f) i ≡ at w i
    weight_other i h =
        rw bytes_written (weight-word ws (omega (arith, length-words w)) i ∙ words-written w {i = i} (omega arith))

  pub weights-written : file_weights f ≡ w
  weights-written =
      ap (λ k. map_below k (weight_in (weight_bytes f))) (buses_written n m q r (weight_section w))
      ∙ map_below-same _ (at w) n (λ i h. split (all_ones w) (λ e. weight-one e i h) (λ e. weight_other e i h))
      ∙ ap (λ k. map_below k (at w)) (sym wide)
      ∙ map_below-entries w

  pub third_written : records_end f < length f → SoundWeightSection f
  third_written l =
      split (all_ones w)
      (λ e. absurd (omega (arith, size, ap length (section_none w e))))
      (λ e. record {
        counted = count-written e;
        size = omega (arith, size, length_section w ∙ ap (λ b. cond b 0 (2 + 2 * length w)) e, buses_written n m q r (weight_section w), wide);
      })

-- ---- written as they were read: what follows the records of a file is the section of its weights, unless that is of all ones
module _ (f : List ℕ) (s : SoundSections f) (bytes : AreBytes f) where
  abbrev n : ℕ
  n = file_bus_count f

  abbrev b : List ℕ
  b = weight_bytes f

  weights-at : (i : ℕ) → i < n → at (file_weights f) i ≡ weight_in b i
  weights-at i h = map_below-at (weight_in b) n h

  none_follows : length f ≡ records_end f → weight_section (file_weights f) ≡ drop (records_end f) f
  none_follows e =
      section_none (file_weights f)
      (ones_by (file_weights f) (λ i h. weights-at i (omega (arith, length-map_below n (weight_in b))) ∙ weight-none b (ap length (weight_bytes-none f (omega arith))) i))
      ∙ sym (ap (λ k. drop k f) (sym e) ∙ drop-length f)

  module _ (w : SoundWeightSection f) where
    weights_again : words (file_weights f) ≡ b
    unfolding weight_bytes
    weights_again =
        let long : length b ≡ 2 * n = length-weight_bytes f (omega (arith, w.size)) in
        let many = length-map_below n (weight_in b) in
        words_again (file_weights f) b (omega arith) (part_bytes (weights_at f) (weights_end f) f bytes)
        (λ i h. weights-at i (omega arith) ∙ weight-word b (omega arith) i)

    weights_follow : all_ones (file_weights f) ≡ false → weight_section (file_weights f) ≡ drop (records_end f) f
    unfolding weight_bytes
    weights_follow e =
        let to_end : b ≡ drop (weights_at f) f = take_all (weights_end f - weights_at f) (drop (weights_at f) f) (omega (arith, length-drop (weights_at f) f, w.size)) in
        section_some (file_weights f) e
        ∙ ap₂ ◌++◌ (ap word (length-map_below n (weight_in b) ∙ sym w.counted) ∙ word_again f (records_end f) bytes (omega (arith, w.size))) (weights_again ∙ to_end)
        ∙ part-drop (records_end f) (weights_at f) f (omega arith)

  pub section_again : NoOnesSection f → weight_section (file_weights f) ≡ drop (records_end f) f
  section_again none = ⊎_elim none_follows (λ w. weights_follow w (none (omega (arith, w.size)))) (ends s)
