use Rattle.std.proofs.Common.{◌≡◌, true, false, refl, rules}
use Rattle.network.specs.declared.Refusal.TheVariants.{CaseNotSet, AboardOutOfRange}
use Rattle.network.specs.Refusals.{accepted, refused, number_of, place_of}
use Rattle.network.specs.Elements.{aboard}
use Rattle.network.specs.Sentences.{outside}
use Rattle.study.specs.Studies.{ledger_of}
use Rattle.ledger.specs.Ledger.{closing}
use Rattle.study.proofs.Following.{closed_refuses, refuses, refuses_with, accepts, stays_lawful}
use Rattle.ledger.proofs.Answering.{closing_unset, closing_count, closing_points}
use Rattle.study.proofs.Study.close.Goals as goal

pub returns-in-Closed : goal.returns-in-Closed
returns-in-Closed c = closed_refuses c.args.self.now closing refl c.in-Closed.is

pub returns-then-is_none : goal.returns-then-is_none
returns-then-is_none c =
    let s = c.args.self.now in
    refuses s closing CaseNotSet (closing_unset (ledger_of s) c.in-Open.is c.if-is_none.ensures)

pub returns-then-not-contains : goal.returns-then-not-contains
returns-then-not-contains c =
    let s = c.args.self.now in
    let crowded : outside 1 8000 (aboard (ledger_of s).elements) ≡ true = search rules in
    refuses s closing AboardOutOfRange (closing_count (ledger_of s) c.in-Open.is c.if-is_none.ensures crowded)

pub returns-in_err-check_points-in-Open : goal.returns-in_err-check_points-in-Open
returns-in_err-check_points-in-Open c =
    let s = c.args.self.now in
    let few : outside 1 8000 (aboard (ledger_of s).elements) ≡ false = search rules in
    let y = c.in_err-check_points-in-Open.field-0.0 in
    let e = closing_points (ledger_of s) c.in-Open.is c.if-is_none.ensures few (refused (number_of y) (place_of y)) c.in_err-check_points-in-Open.ensures.answered in
    refuses_with s closing c.from_residual.result _ c.from_residual.ensures.1 e

pub invariant_of-self : goal.invariant_of-self
invariant_of-self c =
    let s = c.args.self.now in
    let few : outside 1 8000 (aboard (ledger_of s).elements) ≡ false = search rules in
    let e = closing_points (ledger_of s) c.in-Open.is c.if-is_none.ensures few (accepted tt) c.in_ok-check_points-in-Open.ensures.answered in
    record { lawful = stays_lawful s closing e _ refl }

pub returns-in_ok-check_points-in-Open : goal.returns-in_ok-check_points-in-Open
returns-in_ok-check_points-in-Open c =
    let s = c.args.self.now in
    let few : outside 1 8000 (aboard (ledger_of s).elements) ≡ false = search rules in
    let e = closing_points (ledger_of s) c.in-Open.is c.if-is_none.ensures few (accepted tt) c.in_ok-check_points-in-Open.ensures.answered in
    accepts s closing e _ refl
