-- Thin flows, by the lines that a program holds.
use Rattle.std.specs.Prelude.{ℕ, zero, suc, Bool, cond, ◌&&◌, List, [], ◌∷◌, length, replicate, Some, None, Option, ◌==◌, nat_lt}
use Rattle.walking.specs.Curves.{Tables}
use Rattle.network.specs.declared.Element.{Element}
use Rattle.network.specs.Sentences.{Sentence, says}
use Rattle.sheet.specs.declared.Line.{Line}
use Rattle.sheet.specs.Lines.{no_line}
use Rattle.sheet.specs.Sheet.{sheet, lines, first_thin}

abbrev pub line_thin : Line → Bool
line_thin l = nat_lt 0 l.persons && nat_lt l.flow.lower 10000000

-- the number of the first thin line, where the first line has the number k + 1; 0 if there is none
abbrev pub first_thin_line : List Line → ℕ → ℕ
first_thin_line [] k = 0
first_thin_line (l ∷ ls) k = cond (line_thin l) (suc k) (first_thin_line ls (suc k))

-- a number from 1, where 0 stands for none
abbrev pub number_or_none : ℕ → Option ℕ
number_or_none zero = None
number_or_none (suc n) = Some (suc n)

-- an element with a thin flow refuses the worksheet
abbrev pub thin_sentences : Tables → List Element → List Sentence
thin_sentences t es = says (nat_lt 0 (first_thin (sheet t es) 0)) 14 (first_thin (sheet t es) 0) ∷ []

-- the lines that are written: those of the worksheet, or zeros where it is refused
abbrev pub worked_out : Tables → List Element → List Line
worked_out t es = cond (first_thin (sheet t es) 0 == 0) (lines t es) (replicate (length es) no_line)
