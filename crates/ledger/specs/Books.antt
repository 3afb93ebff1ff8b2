-- A rule book by its meaning, and what it finds of a network.
use Rattle.std.specs.Prelude.{List}
use Rattle.walking.specs.Curves.{Tables}
use Rattle.walking.specs.Laws.{Lawful}
use Rattle.walking.specs.Rules.{Rules, InRange}
use Rattle.network.specs.declared.CaseData.{CaseData}
use Rattle.network.specs.declared.Element.{Element}
use Rattle.sheet.specs.Sheet.{sheet}
use Rattle.verdicts.specs.declared.Finding.{Finding}
use Rattle.verdicts.specs.Verdicts.{verdict}
use Rattle.ways.specs.Ends.{lower_end, upper_end, governing}

pub record Book : Type 0 where
  pub tables : Tables
  pub rules : Rules

-- what every rule book keeps
pub record Kept (b : Book) : Type 0 where
  pub lawful : Lawful b.tables
  pub in_range : InRange b.rules

-- both ends of the slowest used route's time, the verdict on them, and the governing element
unfoldable pub finding : Book → CaseData → List Element → Finding
finding b c es = record {
  verdict = verdict b.rules c (lower_end es (sheet b.tables es)) (upper_end es (sheet b.tables es));
  time = record { lower = lower_end es (sheet b.tables es); upper = upper_end es (sheet b.tables es) };
  governing = governing es (sheet b.tables es);
}
