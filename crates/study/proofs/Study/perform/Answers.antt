use Rattle.std.proofs.Common.{length, rules}
use Rattle.study.specs.Studies.{ledger_of, request_of}
use Rattle.study.proofs.Following.{closed_refuses, open_refuses, unwritten}
use Rattle.study.proofs.Study.perform.Goals as goal

pub returns-in-Open-Reopen-clause-follows : goal.returns-in-Open-Reopen-clause-follows
returns-in-Open-Reopen-clause-follows g c = open_refuses _ _ (search rules) (search rules)

pub returns-in-Open-Reopen-clause-worksheet : goal.returns-in-Open-Reopen-clause-worksheet
returns-in-Open-Reopen-clause-worksheet g c =
    let s = c.args.self.now in
    let q = request_of g.B.WalkingTables.meaning g.B.RuleBook.rules (length c.args.worksheet.now) c.args.call in
    unwritten (ledger_of s) q c.args.worksheet.now (open_refuses s q (search rules) (search rules)).answered

pub returns-in-Closed-Set-clause-follows : goal.returns-in-Closed-Set-clause-follows
returns-in-Closed-Set-clause-follows g c = closed_refuses _ _ (search rules) (search rules)

pub returns-in-Closed-Set-clause-worksheet : goal.returns-in-Closed-Set-clause-worksheet
returns-in-Closed-Set-clause-worksheet g c =
    let s = c.args.self.now in
    let q = request_of g.B.WalkingTables.meaning g.B.RuleBook.rules (length c.args.worksheet.now) c.args.call in
    unwritten (ledger_of s) q c.args.worksheet.now (closed_refuses s q (search rules) (search rules)).answered
