use Rattle.std.proofs.Common.{◌^◌, ◌∙◌, rules, tests}
use Rattle.std.proofs.lemmas.Iterator.{YieldsList-from_slice, YieldsList-from_map}
use Rattle.std.proofs.lemmas.Iterator.Consumers.{sum_by_from_yields_List, fits_by_from_yields_list}
use Rattle.flows.proofs.ShareParts.{wide, width_all, width_fits}
use Rattle.flows.proofs.shares.width_out.Goals as goal

pub sum-requires-clause-fits : goal.sum-requires-clause-fits
sum-requires-clause-fits c =
    let es = c.args.network.elements.now in
    let p = c.args.point in
    fits_by_from_yields_list (wide es p) es c.map.result (2 ^ 32)
    (YieldsList-from_map _ (wide es p) (YieldsList-from_slice es cc) c.map.ensures.closure (λ x r q k. search (rules, tests)))
    (width_fits es p c.args.network.ready)

pub returns : goal.returns
returns c =
    let es = c.args.network.elements.now in
    let p = c.args.point in
    sum_by_from_yields_List (wide es p) es c.map.result c.sum.result c.sum.ensures.ran
    (YieldsList-from_map _ (wide es p) (YieldsList-from_slice es cc) c.map.ensures.closure (λ x r q k. search (rules, tests)))
    ∙ width_all es p
