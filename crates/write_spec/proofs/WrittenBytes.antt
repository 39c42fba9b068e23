-- The sections of a file up to its records are read as they were written, and bytes are written as they were read.
use Rattle.std.specs.Prelude.{List, ◌++◌, ◌≡◌, ℕ, ◌+◌, ◌*◌, length, take, drop}
use Rattle.std.proofs.Common.{append_assoc, sym, ap₂, ◌∙◌, arith, take-append-drop}
use Rattle.std.proofs.Math.Path.{refl, ap}
use Rattle.std.proofs.Math.ListN.{length-append}
use Rattle.lists.specs.Lists.{part}
use Rattle.lists.proofs.Places.{part_between, part-drop}
use Rattle.file_spec.specs.FileBytes.{file_bus_count, needs_end, need_bytes, file_line_count, records_at, records_end, records}
use Rattle.file_spec.specs.SoundSections.{SoundSections}
use Rattle.write_spec.specs.FileOf.{word}
use Rattle.write_spec.specs.RoundTrip.{AreBytes}
use Rattle.write_spec.proofs.WrittenWords.{word-front, word-behind, word_again}

-- n buses with the needs q, m records r, and what follows them
module _ (n m : ℕ) (q r rest : List ℕ) where
  abbrev pub file : List ℕ
  file = word n ++ (q ++ (word m ++ (r ++ rest)))

  pub buses_written : file_bus_count file ≡ n
  buses_written = word-front n (q ++ (word m ++ (r ++ rest)))

  module _ (buses : length q ≡ n) where
    pub needs-written : need_bytes file ≡ q
    unfolding need_bytes word
    needs-written = part_between (word n) q (word m ++ (r ++ rest)) {a = 2} {e = needs_end file} refl (omega (arith, buses_written, buses))

    pub lines-written : file_line_count file ≡ m
    unfolding word
    lines-written =
        word-behind (word n) (q ++ (word m ++ (r ++ rest))) n (omega (arith, buses_written))
        ∙ word-behind q (word m ++ (r ++ rest)) 0 (omega (arith, buses))
        ∙ word-front m (r ++ rest)

    module _ (lines : length r ≡ 4 * m) where
      -- what stands before the records
      abbrev pub front : List ℕ
      front = word n ++ (q ++ word m)

      pub length_sections : length file ≡ 2 + n + 2 + 4 * m + length rest
      unfolding word
      length_sections = omega (arith, buses, lines, length-append q (word m ++ (r ++ rest)), length-append r rest)

      in_front : file ≡ front ++ (r ++ rest)
      unfolding word
      in_front = ap (λ l. word n ++ l) (sym (append_assoc q (word m) (r ++ rest)))

      length_front : length front ≡ records_at file
      unfolding word
      length_front = omega (arith, buses_written, buses, length-append q (word m))

      pub records-written : records file ≡ r
      unfolding records
      records-written =
          ap (part (records_at file) (records_end file)) in_front
          ∙ part_between front r rest {a = records_at file} {e = records_end file} (sym length_front) (omega (arith, lines-written, lines))

      -- what follows the records stands where they end
      pub to_rest : file ≡ (front ++ r) ++ rest
      to_rest = in_front ∙ sym (append_assoc front r rest)

      pub length_to_rest : length (front ++ r) ≡ records_end file
      length_to_rest = omega (arith, length-append front r, length_front, lines-written, lines)

-- so a file of bytes is its sections, and what follows them
pub sections_again : (f : List ℕ) → SoundSections f → AreBytes f → file (file_bus_count f) (file_line_count f) (need_bytes f) (records f) (drop (records_end f) f) ≡ f
unfolding need_bytes records
sections_again f s bytes =
    let a = needs_end f in
    let b = records_at f in
    let e = records_end f in
    ap₂ (λ x y. x ++ (part 2 a f ++ (y ++ (part b e f ++ drop e f)))) (word_again f 0 bytes (omega (arith, s.complete))) (word_again f a bytes (omega (arith, s.complete)))
    ∙ ap (λ l. take 2 f ++ (part 2 a f ++ l)) (ap (λ l. part a b f ++ l) (part-drop b e f (omega arith)) ∙ part-drop a b f (omega arith))
    ∙ ap (λ l. take 2 f ++ l) (part-drop 2 a f (omega arith))
    ∙ take-append-drop 2 f
