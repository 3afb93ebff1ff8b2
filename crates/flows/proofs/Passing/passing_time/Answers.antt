use Rattle.std.proofs.Common.{◌*◌, ◌^◌, ◌∙◌}
use Rattle.exact.specs.Fractions.{over}
use Rattle.exact.specs.Worked.{around, falling}
use Rattle.flows.proofs.Shown.{with_persons}
use Rattle.flows.proofs.Passing.passing_time.Goals as goal

pub returns : goal.returns
returns c x =
    let p = c.args.self.now in
    c.time_between.ensures x ∙ with_persons p.persons (falling (over (p.persons * 10 ^ 15)) (around p.flow x)) c.if-self-eq0.false
