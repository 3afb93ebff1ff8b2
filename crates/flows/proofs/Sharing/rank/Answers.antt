use Rattle.std.proofs.Common.{◌^◌, ◌∙◌, rules, tests}
use Rattle.std.specs.List.{enumerate_from}
use Rattle.std.proofs.lemmas.Iterator.{YieldsList-from_slice, YieldsList-from_map}
use Rattle.std.proofs.lemmas.Iterator.Consumers.{YieldsList-from_enumerate, sum_by_from_yields_List, fits_by_from_yields_list}
use Rattle.flows.proofs.ShareParts.{served_one, ranked, ranks_fit}
use Rattle.flows.proofs.Sharing.rank.Goals as goal

pub sum-requires-clause-fits : goal.sum-requires-clause-fits
sum-requires-clause-fits c =
    let s = c.args.self.now in
    let es = s.network.elements.now in
    let own = c.remainder-own in
    let one = served_one es s.point s.persons c.args.i s.width own.result s.all own.ensures in
    fits_by_from_yields_list one (enumerate_from 0 es) c.map.result (2 ^ 64)
    (YieldsList-from_map _ one (YieldsList-from_enumerate (YieldsList-from_slice es cc) cc) c.map.ensures.closure (λ x r q k. search (rules, tests)))
    (ranks_fit es s.point s.persons c.args.i s.width own.result s.all own.ensures s.network.ready)

pub returns : goal.returns
returns c =
    let s = c.args.self.now in
    let es = s.network.elements.now in
    let own = c.remainder-own in
    let one = served_one es s.point s.persons c.args.i s.width own.result s.all own.ensures in
    sum_by_from_yields_List one (enumerate_from 0 es) c.map.result c.sum.result c.sum.ensures.ran
    (YieldsList-from_map _ one (YieldsList-from_enumerate (YieldsList-from_slice es cc) cc) c.map.ensures.closure (λ x r q k. search (rules, tests)))
    ∙ ranked es s.point s.persons c.args.i s.width own.result s.all own.ensures
