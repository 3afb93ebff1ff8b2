use Rattle.std.proofs.Common.{eqb, sym, ◌∙◌, rules, tests}
use Rattle.std.proofs.lemmas.Iterator.{YieldsList-from_slice}
use Rattle.std.proofs.lemmas.Iterator.Search.{any_from_yields_List}
use Rattle.network.specs.Tables.{listed}
use Rattle.network.proofs.Counts.{any_of_each}
use Rattle.network.proofs.ElementTable.departs.Goals as goal

pub returns : goal.returns
returns c =
    let es = listed c.args.self.now in
    any_from_yields_List (λ e. eqb e.from c.args.point) _ _ _ c.any.ensures.ran (YieldsList-from_slice es (search rules)) (λ x b q k. search (rules, tests))
    ∙ sym (any_of_each (λ e. eqb e.from c.args.point) es)
