-- The lines that a program holds, and the worksheet that they are.
use Rattle.std.specs.Prelude.{◌≡◌, ℕ, List, length, take, slice_index_or}
use Rattle.walking.specs.Curves.{Tables}
use Rattle.network.specs.declared.Element.{Element}
use Rattle.network.specs.Elements.{el}
use Rattle.network.specs.Ready.{Ready}
use Rattle.sheet.specs.declared.Line.{Line}
use Rattle.sheet.specs.Lines.{WorkedLine, at, shown, no_line}
use Rattle.sheet.specs.Sheet.{sheet, lines}
use Rattle.ways.specs.Facts.{Facts}

-- the first lines held are the worksheet of these elements under the tables t, and it keeps the facts
pub record WorkedOut (t : Tables) (es : List Element) (held : List Line) : Type 0 where
  pub ready : Ready es
  pub facts : Facts es (sheet t es)
  pub same : take (length es) held ≡ lines t es

-- under some tables
abbrev pub SomeWorkedOut : List Element → List Line → Type 0
SomeWorkedOut es held = (t : Tables) × WorkedOut t es held

-- what holds of the worksheet, whichever tables it was worked out by
abbrev pub OfWorksheet : List Element → List Line → (List WorkedLine → Type 0) → Type 0
OfWorksheet es held P = (t : Tables) → WorkedOut t es held → P (sheet t es)

-- the lines held show the worked lines, element by element
abbrev pub Shows : List Element → List WorkedLine → List Line → Type 0
Shows es ls held = (i : ℕ) → slice_index_or held i no_line ≡ shown (el es i) (at ls i)
