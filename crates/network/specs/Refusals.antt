-- Refusals by number and place, and what a call answers.
use Rattle.std.specs.Prelude.{ℕ, List, ◌++◌, Ok, Err, Result, codes, decimal}
use Rattle.network.specs.declared.Refusal.{Refusal}
use Rattle.network.specs.declared.Refusal.TheVariants.{WrongStage, NoSuchElement, TableFull, UnknownKind, WidthOutOfRange, LengthOutOfRange, WrongPoints, WrongPersons, CaseDataOutOfRange, CaseNotSet, AboardOutOfRange, LoosePoint, WorksheetTooShort, FlowTooThin, UnevenFile, BadRecord, ReadStudyRefused, FileFull, WrongFiling}

abbrev pub number_of : Refusal → ℕ
number_of WrongStage = 1
number_of (NoSuchElement p) = 2
number_of TableFull = 3
number_of (UnknownKind p) = 4
number_of (WidthOutOfRange p) = 5
number_of (LengthOutOfRange p) = 6
number_of (WrongPoints p) = 7
number_of (WrongPersons p) = 8
number_of (CaseDataOutOfRange p) = 9
number_of CaseNotSet = 10
number_of AboardOutOfRange = 11
number_of (LoosePoint p) = 12
number_of WorksheetTooShort = 13
number_of (FlowTooThin p) = 14
number_of (UnevenFile p) = 15
number_of (BadRecord p) = 16
number_of (ReadStudyRefused p) = 17
number_of FileFull = 18
number_of WrongFiling = 19

abbrev pub place_of : Refusal → ℕ
place_of WrongStage = 0
place_of (NoSuchElement p) = p
place_of TableFull = 0
place_of (UnknownKind p) = p
place_of (WidthOutOfRange p) = p
place_of (LengthOutOfRange p) = p
place_of (WrongPoints p) = p
place_of (WrongPersons p) = p
place_of (CaseDataOutOfRange p) = p
place_of CaseNotSet = 0
place_of AboardOutOfRange = 0
place_of (LoosePoint p) = p
place_of WorksheetTooShort = 0
place_of (FlowTooThin p) = p
place_of (UnevenFile p) = p
place_of (BadRecord p) = p
place_of (ReadStudyRefused p) = p
place_of FileFull = 0
place_of WrongFiling = 0

-- what a refusal prints
abbrev pub refusal_text : Refusal → List ℕ
refusal_text r = codes "refused " ++ (decimal (number_of r) ++ (codes " at " ++ decimal (place_of r)))

-- what a call answers: what it gives, or the number and the place of a refusal
pub data Answer (A : Type 0) : Type 0 where
  accepted : A → Answer A
  refused : ℕ → ℕ → Answer A

-- what a result says; no two refusals have the same number, so this leaves nothing open
abbrev pub told : {A : Type 0} → Result A Refusal → Answer A
told (Ok x) = accepted x
told (Err r) = refused (number_of r) (place_of r)
