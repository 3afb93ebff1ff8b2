use Rattle.std.proofs.Common.{sym, ap, ◌∙◌, arith}
use Rattle.walking.specs.Curves.{speed}
use Rattle.walking.specs.Slower.{slow_row}
use Rattle.walking.proofs.Rows.{any_row, row_slower}
use Rattle.walking.proofs.slower_walk.SlowerWalkWalkingTables.row.Goals as goal

pub slow_row-requires : goal.slow_row-requires
slow_row-requires g c =
    let s = c.args.self.now in
    let k = any_row (g.B.WalkingTables.meaning s.below) (g.met.B.WalkingTables.lawful s.below) c.args.curve c.args.i in
    omega (arith, ap speed c.row.ensures, k.speeds)

pub returns : goal.returns
returns g c =
    let s = c.args.self.now in
    c.slow_row.ensures ∙ ap (slow_row s.per_mille) c.row.ensures ∙ sym (row_slower s.per_mille (g.B.WalkingTables.meaning s.below) (g.met.B.WalkingTables.lawful s.below) c.args.curve c.args.i)
