use Rattle.std.proofs.Common.{refl}
use Rattle.network.specs.Tables.{listed}
use Rattle.study.specs.Studies.{ledger_of}
use Rattle.ledger.specs.Ledger.{striking}
use Rattle.study.proofs.Following.{closed_refuses, refuses_with}
use Rattle.ledger.proofs.Answering.{striking_answer}
use Rattle.study.proofs.Numbered.{strikes}
use Rattle.study.proofs.Study.strike.Goals as goal

pub returns-in-Closed : goal.returns-in-Closed
returns-in-Closed c = closed_refuses c.args.self.now (striking c.args.number) refl c.in-Closed.is

pub returns-in_err-removed-in-Open : goal.returns-in_err-removed-in-Open
returns-in_err-removed-in-Open c =
    let s = c.args.self.now in
    let n = c.args.number in
    let e = striking_answer (ledger_of s) c.in-Open.is n _ c.in_err-removed-in-Open.ensures.answered in
    refuses_with s (striking n) c.from_residual.result _ c.from_residual.ensures.1 e

pub invariant_of-self : goal.invariant_of-self
invariant_of-self c =
    record { lawful = (strikes c.args.self.now c.in-Open.is c.args.number _ c.in_ok-removed-in-Open.ensures.answered (listed c.remove.new.self) c.remove.ensures).0 }

pub returns-in_ok-removed-in-Open : goal.returns-in_ok-removed-in-Open
returns-in_ok-removed-in-Open c =
    (strikes c.args.self.now c.in-Open.is c.args.number _ c.in_ok-removed-in-Open.ensures.answered (listed c.remove.new.self) c.remove.ensures).1 _ refl
