use Rattle.std.proofs.Common.{◌≡◌, length, arith}
use Rattle.network.proofs.Standing.{each_lawful}
use Rattle.sheet.specs.Sheet.{worked}
use Rattle.worksheet.proofs.Held.{holds_by, points_end}
use Rattle.worksheet.proofs.Lines.{first_written, all_held}
use Rattle.worksheet.proofs.Filling.fill.Goals as goal

pub invariant_of-passage : goal.invariant_of-passage
invariant_of-passage g c = record { lawful = each_lawful c.args.self.now.network.ready c.loop-i.i (omega arith) }

pub loop-i-preserved : goal.loop-i-preserved
loop-i-preserved g c =
    let s = c.args.self.now in
    let l = c.loop-i in
    first_written (g.T.WalkingTables.meaning s.tables.now) s.network.elements.now l.sheet c.args.sheet.now l.i (omega arith) c.requires c.first_line.result c.first_line.ensures l.invariant

pub work_points-requires : goal.work_points-requires
work_points-requires g c =
    let s = c.args.self.now in
    let es = s.network.elements.now in
    let ws = worked (g.T.WalkingTables.meaning s.tables.now) es 0 in
    let done : c.loop-i.i ≡ length es = omega arith in
    holds_by es ws c.args.sheet.now c.loop-i.sheet c.requires (all_held es ws c.loop-i.sheet c.args.sheet.now c.loop-i.i done c.loop-i.invariant)

pub returns : goal.returns
returns g c =
    let s = c.args.self.now in
    let es = s.network.elements.now in
    let t = g.T.WalkingTables.meaning s.tables.now in
    let done : c.loop-i.i ≡ length es = omega arith in
    points_end t es c.args.sheet.now c.loop-i.sheet c.work_points.new.sheet
    (all_held es (worked t es 0) c.loop-i.sheet c.args.sheet.now c.loop-i.i done c.loop-i.invariant) c.work_points.ensures
