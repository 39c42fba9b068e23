-- What was read is the front of the input as it was, and the bytes of this read stand behind it.
use Rattle.std.specs.Prelude.{◌≡◌, ℕ, ◌+◌, ◌≤◌, List, ◌++◌, length, take}
use Rattle.std.specs.Io.KnownBytes.{Consumes}
use Rattle.std.proofs.Common.{◌∙◌, subst, ap, sym, rules, length-take-le}
use Rattle.std.proofs.KnownBytes.{Consumes-trans}
use Rattle.std.proofs.Math.Seq.{take-append-add}
use Rattle.std.proofs.lemmas.List.{take-append-le}
use borrow.Rule.Slice.PartMut.{put_mid, post_of}
use Rattle.standard_io.proofs.read_input.Goals as goal

-- the front of a list whose part from k on was written to: what stood before k, and the front of what was written
front : (k m n : ℕ) (xs ys : List ℕ) → k ≤ length xs → m ≤ length ys → take (k + m) (put_mid k n xs ys) ≡ take k xs ++ take m ys
front k m n xs ys p q =
    subst
    (λ j. take (j + m) (put_mid k n xs ys) ≡ take k xs ++ take m (ys ++ post_of k n xs))
    (length-take-le k xs p)
    (take-append-add (take k xs) (ys ++ post_of k n xs) m)
    ∙ ap (λ z. take k xs ++ z) (take-append-le m ys (post_of k n xs) q)

pub loop-bytes-preserved : goal.loop-bytes-preserved
loop-bytes-preserved g c = (
  search rules,
  subst
      (Consumes _ _)
      (sym (front _ _ _ _ _ c.loop-bytes.invariant.0 c.in_ok-more.ensures.bound.0))
      (Consumes-trans _ _ _ _ _ c.loop-bytes.invariant.1 c.in_ok-more.ensures.bytes.0),
)
