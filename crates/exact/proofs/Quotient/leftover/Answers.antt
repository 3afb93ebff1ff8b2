use Rattle.std.proofs.Common.{rules}
use Rattle.exact.proofs.Rounding.{up_by_one, up_by_none}
use Rattle.exact.proofs.Quotient.leftover.Goals as goal

pub returns-clause-value : goal.returns-clause-value
returns-clause-value c =
    let q = c.args.self in
    let one = up_by_one q.dividend q.divisor q.proper in
    let none = up_by_none q.dividend q.divisor q.proper in
    search rules
