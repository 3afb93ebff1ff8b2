use Rattle.std.proofs.Common.{◌+◌, arith, refl}
use Rattle.network.specs.declared.Refusal.TheVariants.{TableFull}
use Rattle.network.specs.Tables.{listed}
use Rattle.study.specs.Studies.{ledger_of}
use Rattle.ledger.specs.Ledger.{entering}
use Rattle.study.proofs.Following.{closed_refuses, refuses, refuses_with, accepts, stays_lawful}
use Rattle.ledger.proofs.Answering.{entering_full, entering_answer}
use Rattle.study.proofs.Writing.{entered}
use Rattle.study.proofs.Study.enter.Goals as goal

pub returns-in-Closed : goal.returns-in-Closed
returns-in-Closed c = closed_refuses c.args.self.now (entering c.args.draft) refl c.in-Closed.is

pub returns-then-count-ge128 : goal.returns-then-count-ge128
returns-then-count-ge128 c =
    let s = c.args.self.now in
    refuses s (entering c.args.draft) TableFull (entering_full (ledger_of s) c.in-Open.is c.args.draft (omega arith))

pub returns-in_err-element-in-Open : goal.returns-in_err-element-in-Open
returns-in_err-element-in-Open c =
    let s = c.args.self.now in
    let e = entering_answer (ledger_of s) c.in-Open.is c.args.draft c.count-count.result c.count-count.ensures.value (omega arith) _ c.in_err-element-in-Open.ensures.answered in
    refuses_with s (entering c.args.draft) c.from_residual.result _ c.from_residual.ensures.1 e

pub invariant_of-self : goal.invariant_of-self
invariant_of-self c =
    let s = c.args.self.now in
    let d = c.args.draft in
    let passed = c.in_ok-element-in-Open.ensures.answered in
    let e = entering_answer (ledger_of s) c.in-Open.is d c.count-count.result c.count-count.ensures.value (omega arith) _ passed in
    record { lawful = stays_lawful s (entering d) e _ (entered (ledger_of s) (listed c.push.new.self) d (c.count-count.result + 1) _ passed c.push.ensures) }

pub returns-in_ok-element-in-Open : goal.returns-in_ok-element-in-Open
returns-in_ok-element-in-Open c =
    let s = c.args.self.now in
    let d = c.args.draft in
    let passed = c.in_ok-element-in-Open.ensures.answered in
    let e = entering_answer (ledger_of s) c.in-Open.is d c.count-count.result c.count-count.ensures.value (omega arith) _ passed in
    accepts s (entering d) e _ (entered (ledger_of s) (listed c.push.new.self) d (c.count-count.result + 1) _ passed c.push.ensures)
