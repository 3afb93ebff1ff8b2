use Rattle.std.proofs.Common.{◌≡◌, ◌<◌, ◌^◌, arith, rules, tests}
use Rattle.std.specs.List.{sum_by}
use Rattle.std.proofs.lemmas.Iterator.{YieldsList-from_slice, YieldsList-from_map}
use Rattle.std.proofs.lemmas.Iterator.Consumers.{sum_by_from_yields_List, fits_by_from_yields_list}
use Rattle.flows.proofs.ShareParts.{part_of, given_le, left_by}
use Rattle.flows.proofs.Sharing.left_over.Goals as goal

pub sum-given-requires-clause-fits : goal.sum-given-requires-clause-fits
sum-given-requires-clause-fits c =
    let s = c.args.self.now in
    let es = s.network.elements.now in
    let p = s.point in
    let part = part_of es p s.persons s.width s.all s.some in
    let small : sum_by part es < 2 ^ 64 = omega (arith, given_le es p s.persons s.width s.all s.some, s.few) in
    fits_by_from_yields_list part es c.map.result (2 ^ 64)
    (YieldsList-from_map _ part (YieldsList-from_slice es cc) c.map.ensures.closure (λ x r q k. search (rules, tests)))
    small

-- the whole parts that the chain adds up
given : (c : goal.After-sum-given) → c.sum-given.result ≡ sum_by (part_of c.args.self.now.network.elements.now c.args.self.now.point c.args.self.now.persons c.args.self.now.width c.args.self.now.all c.args.self.now.some) c.args.self.now.network.elements.now
given c =
    let s = c.args.self.now in
    let es = s.network.elements.now in
    let p = s.point in
    let part = part_of es p s.persons s.width s.all s.some in
    sum_by_from_yields_List part es c.map.result c.sum-given.result c.sum-given.ensures.ran
    (YieldsList-from_map _ part (YieldsList-from_slice es cc) c.map.ensures.closure (λ x r q k. search (rules, tests)))

pub overflow_cast-result : goal.overflow_cast-result
overflow_cast-result c =
    let s = c.args.self.now in
    omega (arith, given c, given_le s.network.elements.now s.point s.persons s.width s.all s.some, s.few)

pub overflow_sub-result : goal.overflow_sub-result
overflow_sub-result c =
    let s = c.args.self.now in
    omega (arith, given c, given_le s.network.elements.now s.point s.persons s.width s.all s.some)

pub returns : goal.returns
returns c =
    let s = c.args.self.now in
    left_by s.network.elements.now s.point s.persons s.width s.all s.some c.sum-given.result (given c)
