use Rattle.std.proofs.Common.{◌≡◌, sym, ◌∙◌, rules}
use Rattle.std.specs.List.{sum_by}
use Rattle.network.specs.Tables.{listed}
use Rattle.network.proofs.Counts.{sum_of_each}
use Rattle.network.proofs.ElementTable.aboard.Goals as goal

pub returns : goal.returns
returns c =
    let es = listed c.args.self.now in
    let summed : c.sum.result ≡ sum_by (λ e. e.persons) es = search rules in
    summed ∙ sym (sum_of_each (λ e. e.persons) es)
