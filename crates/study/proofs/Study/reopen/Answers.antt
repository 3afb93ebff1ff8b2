use Rattle.std.proofs.Common.{refl}
use Rattle.ledger.specs.Ledger.{reopening}
use Rattle.ledger.proofs.Answering.{in_stage}
use Rattle.study.specs.Studies.{ledger_of}
use Rattle.study.proofs.Following.{open_refuses, accepts, stays_lawful}
use Rattle.study.proofs.Study.reopen.Goals as goal

pub returns-in-Open : goal.returns-in-Open
returns-in-Open c = open_refuses c.args.self.now reopening refl c.in-Open.is

pub invariant_of-self : goal.invariant_of-self
invariant_of-self c =
    let s = c.args.self.now in
    record { lawful = stays_lawful s reopening (in_stage (ledger_of s) reopening c.in-Closed.is) _ refl }

pub returns-in-Closed : goal.returns-in-Closed
returns-in-Closed c =
    let s = c.args.self.now in
    accepts s reopening (in_stage (ledger_of s) reopening c.in-Closed.is) _ refl
