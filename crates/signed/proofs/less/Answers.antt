use Rattle.signed.proofs.SignedBits.{less_read}
use Rattle.signed.proofs.less.Goals as goal

pub returns : goal.returns
returns c = less_read _ _ c.requires.0 c.requires.1
