use Rattle.std.proofs.Common.{ap, ◌∙◌, suc, ◌+◌}
use Rattle.lists.specs.Below.{map_below}
use Rattle.fraction.specs.Divisors.{lcm_all}
use Rattle.share_spec.specs.TableNetwork.{divisors_of}
use Rattle.share_terms.proofs.denominator_of.Goals as goal

pub returns : goal.returns
unfolding divisors_of
returns c = c.multiple_up_to.ensures ∙ ap (λ d. lcm_all (map_below (1 + d) suc)) c.largest_degree.ensures.value
