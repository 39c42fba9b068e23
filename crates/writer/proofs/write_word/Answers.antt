use Rattle.std.proofs.Common.{[], ◌∷◌, ◌≡◌, ◌%◌, ◌/◌, get_or, refl, sym, ap, ◌∙◌, add-zero, arith}
use Rattle.lists.proofs.Writes.{put-none, stored_entry}
use Rattle.write_spec.specs.FileOf.{word}
use Rattle.writer.proofs.write_word.Goals as goal

pub returns : goal.returns
unfolding word
returns c =
    let t = c.args.out.now in
    let i = c.args.at in
    let n = c.args.number in
    let b = c.to_le_bytes.result in
    let low : get_or b 0 0 ≡ n % 256 = ap (λ l. get_or l 0 0) c.to_le_bytes.ensures in
    let high : get_or b 1 0 ≡ n / 256 = ap (λ l. get_or l 1 0) c.to_le_bytes.ensures ∙ omega arith in
    let first = stored_entry t i [] (sym (put-none t i)) (sym (add-zero i)) (n % 256) (omega (arith, c.requires.1)) in
    (refl, rw (low, high) (stored_entry t i (n % 256 ∷ []) first refl _ (omega (arith, c.requires.1))))
