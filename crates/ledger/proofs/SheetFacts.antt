-- The worksheet of a ready network without thin flows keeps what routes want.
use Rattle.std.proofs.Common.{◌≡◌, ℕ, ◌≤◌, List, length, arith}
use Rattle.walking.specs.Curves.{Tables}
use Rattle.walking.specs.Laws.{Lawful}
use Rattle.network.specs.declared.Element.{Element}
use Rattle.network.specs.Ready.{Ready}
use Rattle.sheet.specs.Lines.{at}
use Rattle.sheet.specs.Sheet.{sheet, first_thin}
use Rattle.sheet.proofs.Stages.{length_worked}
use Rattle.sheet.proofs.Crowds.{persons_bounded, sheet_goes_on, sheet_came_on, sheet_some_cross}
use Rattle.sheet.proofs.Durations.{none_thin, flow_durations_near, travels_near}
use Rattle.ways.specs.Facts.{Facts}

pub sheet_facts : (t : Tables) (es : List Element) → Lawful t → Ready es → first_thin (sheet t es) 0 ≡ 0 → Facts es (sheet t es)
sheet_facts t es lawful ready none = record {
  size = size;
  some = sheet_some_cross t es ready;
  goes = sheet_goes_on t es ready;
  came = sheet_came_on t es ready;
  few = λ i c. few i;
  steady = λ i c. none_thin (sheet t es) 0 none i (omega (arith, c.0, size)) c.1;
  durations = flow_durations_near t es lawful ready none;
  travels = travels_near t es lawful ready none;
}
  where
    size : length (sheet t es) ≡ length es
    size = unfold sheet in length_worked t es 64

    few : (i : ℕ) → (at (sheet t es) i).persons ≤ 8000
    few i = unfold sheet in omega (arith, persons_bounded t es ready 64 i (omega arith), ready.aboard_most)
