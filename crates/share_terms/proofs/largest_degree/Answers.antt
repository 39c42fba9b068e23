use Rattle.std.proofs.Common.{◌≡◌, ap, sym, ◌∙◌, rules, arith, unwrap_or}
use Rattle.std.proofs.lemmas.Iterator.{YieldsList-from_range, YieldsList-from_map}
use Rattle.std.proofs.lemmas.Iterator.Adapters.{option_map_id}
use Rattle.std.proofs.lemmas.Iterator.Consumers.{max_from_yields_List}
use Rattle.lists.specs.Below.{largest_below}
use Rattle.lists.proofs.Chains.{largest_range}
use Rattle.table_spec.specs.Layout.{degree}
use Rattle.share_spec.specs.TableNetwork.{largest_degree}
use Rattle.share_spec.proofs.TableGame.{largest_le}
use Rattle.share_terms.proofs.largest_degree.Goals as goal

pub returns : goal.returns
unfolding largest_degree
returns c =
    let degrees = degree c.args.table.now in
    let n = c.buses.result in
    let largest : c.unwrap_or.result ≡ largest_degree c.args.table.now =
    c.unwrap_or.ensures
    ∙ ap (λ m. unwrap_or m 0)
    (sym (option_map_id c.max.result)
    ∙ max_from_yields_List c.map.result c.max.result c.max.ensures.ran (YieldsList-from_map _ degrees (YieldsList-from_range 0 n n c.map.ensures.source (omega arith)) c.map.ensures.closure (λ x r q k. search rules)))
    ∙ largest_range degrees n
    ∙ ap (λ n. largest_below n degrees) c.buses.ensures.value in
    record { value = largest; small = omega (arith, largest, largest_le c.buses.ensures.scorable) }
