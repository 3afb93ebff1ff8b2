-- The ledger: what a study holds, fed by the calls' arguments alone.
use Rattle.std.specs.Prelude.{ℕ, ◌+◌, ◌-◌, Bool, true, false, cond, not, List, [], ◌∷◌, ◌++◌, length, set as put_at, replicate, is_some, Some, None, Option, ◌==◌, nat_le, nat_lt}
use Rattle.std.specs.List.{remove}
use Rattle.network.specs.declared.Draft.{Draft}
use Rattle.network.specs.declared.Element.{Element}
use Rattle.network.specs.declared.CaseData.{CaseData}
use Rattle.network.specs.Refusals.{Answer, accepted, refused}
use Rattle.network.specs.Sentences.{Sentence, says, first_true, outside}
use Rattle.network.specs.Checks.{element_of, element_sentences, case_sentences}
use Rattle.network.specs.Elements.{aboard}
use Rattle.network.specs.Points.{point_sentences}
use Rattle.sheet.specs.declared.Line.{Line}
use Rattle.sheet.specs.Lines.{no_line}
use Rattle.sheet.specs.Sheet.{sheet, lines, first_thin}
use Rattle.verdicts.specs.declared.Finding.{Finding}
use Rattle.ledger.specs.declared.Stage.{Stage}
use Rattle.ledger.specs.declared.Stage.TheVariants.{Open, Closed}
use Rattle.ledger.specs.Books.{Book, finding}

pub record Ledger : Type 0 where
  pub stage : Stage
  pub case : Option CaseData
  pub elements : List Element

abbrev pub ledger_with : Stage → Option CaseData → List Element → Ledger
ledger_with s c es = record { stage = s; case = c; elements = es }

-- it begins open, without a case and empty
abbrev pub new_ledger : Ledger
new_ledger = ledger_with Open None []

-- a call, by its arguments
pub data Request : Type 0 where
  setting : CaseData → Request
  entering : Draft → Request
  altering : ℕ → Draft → Request
  striking : ℕ → Request
  closing : Request
  reopening : Request
  -- with a rule book, and so many lines of a worksheet
  assessing : Book → ℕ → Request

-- what an accepted call hands back
pub data Given : Type 0 where
  nothing : Given
  found : Finding → Given

abbrev pub Reply : Type 0
Reply = Answer Given

-- ---- when a call is refused

-- the stage that a call needs
abbrev pub needed : Request → Stage
needed (setting c) = Open
needed (entering d) = Open
needed (altering n d) = Open
needed (striking n) = Open
needed closing = Open
needed reopening = Closed
needed (assessing b k) = Closed

abbrev pub same_stage : Stage → Stage → Bool
same_stage Open Open = true
same_stage Open Closed = false
same_stage Closed Open = false
same_stage Closed Closed = true

-- no element has the number n
abbrev pub number_sentence : List Element → ℕ → Sentence
number_sentence es n = says (outside 1 (length es) n) 2 n

-- the flow of an element, with persons in it, is too thin
abbrev pub thin_sentence : Book → List Element → Sentence
thin_sentence b es = says (nat_lt 0 (first_thin (sheet b.tables es) 0)) 14 (first_thin (sheet b.tables es) 0)

-- the sentences of a call in the stage it needs
abbrev pub later_sentences : Ledger → Request → List Sentence
later_sentences l (setting c) = case_sentences c
later_sentences l (entering d) = says (nat_le 128 (length l.elements)) 3 0 ∷ element_sentences d (length l.elements + 1)
later_sentences l (altering n d) = number_sentence l.elements n ∷ element_sentences d n
later_sentences l (striking n) = number_sentence l.elements n ∷ []
later_sentences l closing = says (not (is_some l.case)) 10 0 ∷ says (outside 1 8000 (aboard l.elements)) 11 0 ∷ point_sentences l.elements
later_sentences l reopening = []
later_sentences l (assessing b k) = says (nat_lt k (length l.elements)) 13 0 ∷ thin_sentence b l.elements ∷ []

abbrev pub sentences : Ledger → Request → List Sentence
sentences l q = says (not (same_stage l.stage (needed q))) 1 0 ∷ later_sentences l q

-- the case data, or zeros where there are none: a closed ledger has some
abbrev pub case_or : Option CaseData → CaseData
case_or None = record { case_number = 0; ship_kind = 0; zones = 0; embarkation = 0 }
case_or (Some c) = c

-- the calls that alter a study hand nothing back
abbrev pub gives : Ledger → Request → Given
gives l (setting c) = nothing
gives l (entering d) = nothing
gives l (altering n d) = nothing
gives l (striking n) = nothing
gives l closing = nothing
gives l reopening = nothing
gives l (assessing b k) = found (finding b (case_or l.case) l.elements)

unfoldable pub reply : Ledger → Request → Reply
reply l q = first_true (sentences l q) (gives l q)

-- ---- what an accepted call makes of the ledger; a refused one leaves it

abbrev pub done : Ledger → Request → Ledger
done l (setting c) = ledger_with l.stage (Some c) l.elements
done l (entering d) = ledger_with l.stage l.case (l.elements ++ element_of d ∷ [])
done l (altering n d) = ledger_with l.stage l.case (put_at l.elements (n - 1) (element_of d))
done l (striking n) = ledger_with l.stage l.case (remove l.elements (n - 1))
done l closing = ledger_with Closed l.case l.elements
done l reopening = ledger_with Open l.case l.elements
done l (assessing b k) = l

abbrev pub by_reply : Reply → Ledger → Ledger → Ledger
by_reply (accepted g) before after = after
by_reply (refused n p) before after = before

unfoldable pub next : Ledger → Request → Ledger
next l q = by_reply (reply l q) l (done l q)

-- ---- what a call writes to the worksheet, from its first line on

-- all counted lines where a finding is given, zeros where a flow is too thin, else none
abbrev pub lines_by : Reply → Book → List Element → List Line
lines_by (accepted g) b es = lines b.tables es
lines_by (refused n p) b es = cond (n == 14) (replicate (length es) no_line) []

unfoldable pub written : Ledger → Request → List Line
written l (setting c) = []
written l (entering d) = []
written l (altering n d) = []
written l (striking n) = []
written l closing = []
written l reopening = []
written l (assessing b k) = lines_by (reply l (assessing b k)) b l.elements
