-- What a slice of lines holds while the worksheet is filled.
use Rattle.std.specs.Prelude.{◌≡◌, ℕ, ◌<◌, ◌≤◌, cond, List, ◌++◌, map, length, drop}
use Rattle.std.specs.List.{range_with_len}
use Rattle.exact.specs.Worked.{Worked}
use Rattle.walking.specs.Curves.{Tables}
use Rattle.network.specs.declared.Element.{Element}
use Rattle.network.specs.Elements.{el, leaves}
use Rattle.sheet.specs.declared.Line.{Line}
use Rattle.sheet.specs.Lines.{WorkedLine, at, shown}
use Rattle.sheet.specs.Shares.{share}
use Rattle.sheet.specs.Points.{leaving}
use Rattle.flows.specs.Points.{line_at}

-- n new lines, and after them what stood there before
abbrev pub laid : {X : Type 0} → (ℕ → X) → ℕ → List X → List X
laid f n before = map f (range_with_len 0 n) ++ drop n before

-- what is shown of the worked line at i
abbrev pub shown_at : List Element → List WorkedLine → ℕ → Line
shown_at es ws i = shown (el es i) (at ws i)

-- the worked lines of all elements, as a program holds them, and what stands beyond them
unfoldable pub held : List Element → List WorkedLine → List Line → List Line
held es ws before = laid (shown_at es ws) (length es) before

-- the slice holds the worked lines of all elements
pub record Holds (es : List Element) (ws : List WorkedLine) (ls : List Line) : Type 0 where
  pub room : length es ≤ length ls
  pub lines : (i : ℕ) → i < length es → line_at ls i ≡ shown_at es ws i

-- the line at i once the point p is left by n persons, where the specific flow in is s
unfoldable pub departed : Tables → List Element → ℕ → Worked → ℕ → List Line → ℕ → Line
departed t es p s n ls i = cond (leaves es p i) (shown (el es i) (leaving t (el es i) s (share es p n i))) (line_at ls i)
