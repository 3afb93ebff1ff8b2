use Rattle.std.proofs.Common.{refl}
use Rattle.network.specs.Refusals.{refused, number_of, place_of}
use Rattle.network.specs.Tables.{listed}
use Rattle.study.specs.Studies.{ledger_of}
use Rattle.ledger.specs.Ledger.{altering}
use Rattle.study.proofs.Following.{closed_refuses, refuses_with}
use Rattle.ledger.proofs.Answering.{altering_absent, altering_answer}
use Rattle.study.proofs.Numbered.{alters}
use Rattle.study.proofs.Study.alter.Goals as goal

pub returns-in-Closed : goal.returns-in-Closed
returns-in-Closed c = closed_refuses c.args.self.now (altering c.args.number c.args.draft) refl c.in-Closed.is

pub returns-in_err-replaced-in-Open : goal.returns-in_err-replaced-in-Open
returns-in_err-replaced-in-Open c =
    let s = c.args.self.now in
    let n = c.args.number in
    let e = altering_absent (ledger_of s) c.in-Open.is n c.args.draft _ _ c.in_err-replaced-in-Open.ensures.answered in
    refuses_with s (altering n c.args.draft) c.from_residual.result _ c.from_residual.ensures.1 e

pub returns-in_err-element-in-Open : goal.returns-in_err-element-in-Open
returns-in_err-element-in-Open c =
    let s = c.args.self.now in
    let n = c.args.number in
    let d = c.args.draft in
    let there = c.in_ok-replaced-in-Open.ensures.answered in
    let y = c.in_err-element-in-Open.field-0.0 in
    let e = altering_answer (ledger_of s) c.in-Open.is n d _ there (refused (number_of y) (place_of y)) c.in_err-element-in-Open.ensures.answered in
    refuses_with s (altering n d) c.from_residual-in_err-element-in-Open.result _ c.from_residual-in_err-element-in-Open.ensures.1 e

pub invariant_of-self : goal.invariant_of-self
invariant_of-self c =
    record {
      lawful = (alters c.args.self.now c.in-Open.is c.args.number _ c.in_ok-replaced-in-Open.ensures.answered c.args.draft _ c.in_ok-element-in-Open.ensures.answered (listed c.replace.new.self) c.replace.ensures).0;
    }

pub returns-in_ok-element-in-Open : goal.returns-in_ok-element-in-Open
returns-in_ok-element-in-Open c =
    (alters c.args.self.now c.in-Open.is c.args.number _ c.in_ok-replaced-in-Open.ensures.answered c.args.draft _ c.in_ok-element-in-Open.ensures.answered (listed c.replace.new.self) c.replace.ensures).1 _ refl
