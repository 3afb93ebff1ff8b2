-- Runs: calls in succession, each with its answer and what it wrote.
use Rattle.std.specs.Prelude.{◌≡◌, List, [], ◌∷◌}
use Rattle.sheet.specs.declared.Line.{Line}
use Rattle.ledger.specs.Ledger.{Ledger, Request, Reply, new_ledger, reply, next, written}

-- a call, its answer, and the worksheet lines that it wrote
pub record Event : Type 0 where
  pub request : Request
  pub answer : Reply
  pub lines : List Line

abbrev pub event : Request → Reply → List Line → Event
event q a ls = record { request = q; answer = a; lines = ls }

-- the call as the ledger answers it
abbrev pub answered_by : Ledger → Request → Event
answered_by l q = event q (reply l q) (written l q)

-- a history of calls with their answers, the latest first, and the ledger that a study then holds
pub data Run : List Event → Ledger → Type 0 where
  start : Run [] new_ledger
  further : {h : List Event} {l m : Ledger} {e : Event} → Run h l → e ≡ answered_by l e.request → m ≡ next l e.request → Run (e ∷ h) m
