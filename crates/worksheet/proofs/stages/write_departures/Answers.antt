use Rattle.std.proofs.Common.{◌∙◌, arith}
use Rattle.exact.specs.Worked.{around}
use Rattle.network.proofs.Standing.{each_lawful}
use Rattle.worksheet.proofs.Lines.{line_written, line_kept}
use Rattle.worksheet.proofs.stages.write_departures.Goals as goal
use Rattle.worksheet.proofs.stages.write_departures.Goals.{then-element-sharing, else-element-sharing}

pub invariant_of-passage : goal.invariant_of-passage
invariant_of-passage g c = record { lawful = each_lawful c.args.sharing.network.ready c.loop-i.i (omega arith) }

pub loop-i-preserved : goal.loop-i-preserved
loop-i-preserved g c x =
    let t = g.T.WalkingTables.meaning c.args.tables.now in
    let s = c.args.sharing in
    let es = s.network.elements.now in
    let l = c.loop-i in
    let ys = c.args.sheet.now in
    let w' = around c.args.specific_flow x in
    elim c.if-element-sharing.branch [
      | then-element-sharing w ↦
          w.sheet-is ∙ line_written t es l.sheet ys l.i (omega arith) c.requires s.point w' s.persons (l.invariant x)
          w.share-persons.result w.leaving_line.result w.if-element-sharing.true w.share-persons.ensures.value (w.leaving_line.ensures x)
      | else-element-sharing w ↦
          w.sheet-is ∙ line_kept t es l.sheet ys l.i (omega arith) c.requires s.point w' s.persons (l.invariant x) w.if-element-sharing.false
    ]
