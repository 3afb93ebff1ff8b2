use Rattle.std.proofs.Common.{refl}
use Rattle.study.specs.Studies.{ledger_of}
use Rattle.ledger.specs.Ledger.{setting}
use Rattle.study.proofs.Following.{closed_refuses, refuses_with, accepts, stays_lawful}
use Rattle.ledger.proofs.Answering.{setting_answer}
use Rattle.study.proofs.Study.set.Goals as goal

pub returns-in-Closed : goal.returns-in-Closed
returns-in-Closed c = closed_refuses c.args.self.now (setting c.args.data) refl c.in-Closed.is

pub returns-in_err-check_case-in-Open : goal.returns-in_err-check_case-in-Open
returns-in_err-check_case-in-Open c =
    let s = c.args.self.now in
    let e = setting_answer (ledger_of s) c.in-Open.is c.args.data _ c.in_err-check_case-in-Open.ensures.answered in
    refuses_with s (setting c.args.data) c.from_residual.result _ c.from_residual.ensures.1 e

pub invariant_of-self : goal.invariant_of-self
invariant_of-self c =
    let s = c.args.self.now in
    let e = setting_answer (ledger_of s) c.in-Open.is c.args.data _ c.in_ok-check_case-in-Open.ensures.answered in
    record { lawful = stays_lawful s (setting c.args.data) e _ refl }

pub returns-in_ok-check_case-in-Open : goal.returns-in_ok-check_case-in-Open
returns-in_ok-check_case-in-Open c =
    let s = c.args.self.now in
    let e = setting_answer (ledger_of s) c.in-Open.is c.args.data _ c.in_ok-check_case-in-Open.ensures.answered in
    accepts s (setting c.args.data) e _ refl
