-- Studies held against the ledger.
use Rattle.std.specs.Prelude.{◌≡◌, ℕ, Bool, true, false, List, ◌∷◌, ◌++◌, length, drop, Some, None, Option, Ok, Err, Result}
use Rattle.walking.specs.Curves.{Tables}
use Rattle.walking.specs.Rules.{Rules}
use Rattle.network.specs.declared.Refusal.{Refusal}
use Rattle.network.specs.Refusals.{accepted, refused, number_of, place_of}
use Rattle.network.specs.Tables.{listed}
use Rattle.sheet.specs.declared.Line.{Line}
use Rattle.verdicts.specs.declared.Finding.{Finding}
use Rattle.ledger.specs.Ledger.{Ledger, ledger_with, Request, setting, entering, altering, striking, closing, reopening, assessing, Reply, Given, nothing, found, reply, next, written}
use Rattle.ledger.specs.Runs.{Event, event, Run}
use Rattle.ledger.specs.Sound.{SoundReply}
use Rattle.study.specs.declared.Study.{Study}
use Rattle.study.specs.declared.Call.{Call}
use Rattle.study.specs.declared.Call.TheVariants.{Set, Enter, Alter, Strike, Close, Reopen, Assess}

abbrev pub ledger_of : Study → Ledger
ledger_of s = ledger_with s.stage s.case (listed s.elements)

-- an assessment by a rule book of this meaning, with a worksheet of k lines
abbrev pub asked : Tables → Rules → ℕ → Request
asked t r k = assessing (record { tables = t; rules = r }) k

-- what a call asks, with a worksheet of k lines; a rule book is known by its meaning
abbrev pub request_of : {B : Type 0} → (B → Tables) → (B → Rules) → ℕ → Call B → Request
request_of meaning rules k (Set c) = setting c
request_of meaning rules k (Enter d) = entering d
request_of meaning rules k (Alter n d) = altering n d
request_of meaning rules k (Strike n) = striking n
request_of meaning rules k Close = closing
request_of meaning rules k Reopen = reopening
request_of meaning rules k (Assess b) = asked (meaning b.now) (rules b.now) k

-- the reply that a result stands for, by what the value in it gives
abbrev pub replied : {A : Type 0} → (A → Given) → Result A Refusal → Reply
replied given (Ok x) = accepted (given x)
replied given (Err r) = refused (number_of r) (place_of r)

-- of a call that hands nothing back, of an assessment, and of any call
abbrev pub told_done : {A : Type 0} → Result A Refusal → Reply
told_done r = replied (λ _. nothing) r

abbrev pub told_found : Result Finding Refusal → Reply
told_found r = replied found r

abbrev pub given_by : Option Finding → Given
given_by None = nothing
given_by (Some f) = found f

abbrev pub told_outcome : Result (Option Finding) Refusal → Reply
told_outcome r = replied given_by r

abbrev pub is_refused : Reply → Bool
is_refused (accepted g) = false
is_refused (refused n p) = true

-- A call takes a study from before to after, with this reply.
pub record FollowsLedger (before : Study) (q : Request) (a : Reply) (after : Study) : Type 0 where
  -- the reply is the ledger's
  pub answered : a ≡ reply (ledger_of before) q
  -- what the study then holds is what the ledger then holds
  pub moved : ledger_of after ≡ next (ledger_of before) q
  -- a refused call leaves the study as it was, to the last bit
  pub kept : is_refused a ≡ true → after ≡ before
  -- whatever the calls were that the study came by, it has now come by them and this one
  pub run : (h : List Event) → Run h (ledger_of before) → Run (event q a (written (ledger_of before) q) ∷ h) (ledger_of after)
  -- and a finding says the truth
  pub sound : SoundReply (ledger_of before) q a

-- the worksheet then has the lines that the ledger writes, and is as it was beyond them
abbrev pub wrote : List Line → List Line → List Line
wrote new old = new ++ drop (length new) old
