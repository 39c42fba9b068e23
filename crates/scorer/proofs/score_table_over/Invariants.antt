-- The buses passed have added their terms.
use Rattle.share_spec.specs.TableNetwork.{game_of}
use Rattle.share_spec.specs.TermsGiven.{given_by}
use Rattle.share_terms.specs.Added.{Added}
use Rattle.scorer.proofs.score_table_over.Given as goal

abbrev pub invariant-loop-bus : goal.invariant-loop-bus
invariant-loop-bus l = Added (given_by (game_of l.table) l.over l.bus) l.initial.numerators l.numerators
