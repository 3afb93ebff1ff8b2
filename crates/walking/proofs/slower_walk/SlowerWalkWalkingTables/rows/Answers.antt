use Rattle.std.proofs.Common.{sym, ◌∙◌}
use Rattle.walking.proofs.Rows.{rows_slower}
use Rattle.walking.proofs.slower_walk.SlowerWalkWalkingTables.rows.Goals as goal

pub returns : goal.returns
returns g c =
    let s = c.args.self.now in
    c.rows.ensures ∙ sym (rows_slower s.per_mille (g.B.WalkingTables.meaning s.below) c.args.curve)
