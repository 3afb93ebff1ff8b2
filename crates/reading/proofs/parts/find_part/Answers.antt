use Rattle.std.proofs.Common.{◌+◌, drop, arith}
use Rattle.walking.specs.Curves.{curve_of}
use Rattle.reading.proofs.Going.{start_at, turn_at, here, next, finish}
use Rattle.reading.proofs.parts.find_part.Goals as goal

pub loop-i-init : goal.loop-i-init
loop-i-init g c =
    start_at (g.T.WalkingTables.meaning c.args.tables.now) (g.met.T.WalkingTables.lawful c.args.tables.now) c.args.curve c.args.quantity c.row-before.result c.row-before.ensures

pub returns-then-quantity-row : goal.returns-then-quantity-row
returns-then-quantity-row g c =
    let t = g.T.WalkingTables.meaning c.args.tables.now in
    let rows = curve_of t c.args.curve in
    let k = turn_at t (g.met.T.WalkingTables.lawful c.args.tables.now) c.args.curve c.args.quantity c.row-row.result c.loop-i.before c.loop-i.i c.row-row.ensures (omega arith) c.loop-i.invariant in
    here rows c.loop-i.before c.row-row.result (drop (c.loop-i.i + 1) rows) c.args.quantity k c.if-quantity-row.true

pub loop-i-preserved : goal.loop-i-preserved
loop-i-preserved g c =
    let t = g.T.WalkingTables.meaning c.args.tables.now in
    let rows = curve_of t c.args.curve in
    let k = turn_at t (g.met.T.WalkingTables.lawful c.args.tables.now) c.args.curve c.args.quantity c.row-row.result c.loop-i.before c.loop-i.i c.row-row.ensures (omega arith) c.loop-i.invariant in
    next rows c.loop-i.before c.row-row.result (drop (c.loop-i.i + 1) rows) c.args.quantity k (omega arith)

pub returns : goal.returns
returns g c =
    let rows = curve_of (g.T.WalkingTables.meaning c.args.tables.now) c.args.curve in
    finish rows c.loop-i.before c.loop-i.i c.args.quantity (omega arith) c.loop-i.invariant
