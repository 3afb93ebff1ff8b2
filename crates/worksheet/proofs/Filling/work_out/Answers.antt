use Rattle.std.proofs.Common.{◌-◌, length, arith}
use Rattle.std.proofs.lemmas.List.{length-take-le}
use Rattle.network.proofs.Standing.{ready_stands}
use Rattle.worksheet.proofs.WorkedOut.{refused_by, accepted_by, cleared_by, kept_by}
use Rattle.worksheet.proofs.Filling.work_out.Goals as goal

pub first_thin-requires : goal.first_thin-requires
first_thin-requires g c =
    let ready = ready_stands c.args.self.now.network.ready in
    omega (arith, ready.few, length-take-le (length c.args.self.now.network.elements.now - 0) c.fill.new.sheet)

pub returns-in-Some : goal.returns-in-Some
returns-in-Some g c =
    let t = g.T.WalkingTables.meaning c.args.self.now.tables.now in
    let es = c.args.self.now.network.elements.now in
    let ys = c.args.sheet.now in
    let xs = c.fill.new.sheet in
    record {
      answered = refused_by t es ys xs c.fill.ensures c.in-Some.number c.in-Some.ensures;
      written = cleared_by t es ys xs c.fill.ensures c.in-Some.number c.clear_lines.new.sheet c.in-Some.ensures c.clear_lines.ensures;
    }

pub returns-in-None : goal.returns-in-None
returns-in-None g c =
    let t = g.T.WalkingTables.meaning c.args.self.now.tables.now in
    let es = c.args.self.now.network.elements.now in
    let ys = c.args.sheet.now in
    let xs = c.fill.new.sheet in
    record {
      answered = accepted_by t es ys xs c.fill.ensures c.in-None.ensures;
      written = kept_by t es ys xs c.fill.ensures c.in-None.ensures;
    }
