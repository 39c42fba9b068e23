use Rattle.std.proofs.Common.{◌≡◌, ◌++◌, ap₂, ◌∙◌, sym, ℕ, replicate, drop, rules}
use Rattle.std.proofs.lemmas.List.{length-replicate}
use Rattle.lists.proofs.Writes.{put_front}
use Rattle.share_terms.proofs.clear.Goals as goal

pub returns : goal.returns
returns c =
    let filled : c.fill.new.self ≡ replicate c.args.n 0 = search rules in
    ap₂ (λ l k. l ++ drop k c.args.numerators.now) filled (sym (length-replicate {A = ℕ} c.args.n 0)) ∙ sym (put_front c.args.numerators.now (replicate c.args.n 0))
