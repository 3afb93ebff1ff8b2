-- The worksheet: the sources, then point after point in rising order.
use Rattle.std.specs.Prelude.{ℕ, zero, suc, cond, List, [], ◌∷◌, map, length}
use Rattle.std.specs.List.{range_with_len}
use Rattle.walking.specs.Curves.{Tables}
use Rattle.network.specs.declared.Element.{Element}
use Rattle.network.specs.Elements.{el, leaves}
use Rattle.sheet.specs.declared.Line.{Line}
use Rattle.sheet.specs.Lines.{WorkedLine, idle, at, shown, thin}
use Rattle.sheet.specs.Sources.{source}
use Rattle.sheet.specs.Shares.{share}
use Rattle.sheet.specs.Points.{persons_in, specific_flow_in, leaving}

-- the line of element i once the point p is worked
abbrev pub next : Tables → List Element → ℕ → List WorkedLine → ℕ → WorkedLine
next t es p ls i = cond (leaves es p i) (leaving t (el es i) (specific_flow_in es ls p) (share es p (persons_in es ls p) i)) (at ls i)

-- after the points 1 to p; the sources come first
unfoldable pub worked : Tables → List Element → ℕ → List WorkedLine
worked t es zero = map (λ i. cond (leaves es 0 i) (source t (el es i)) idle) (range_with_len 0 (length es))
worked t es (suc p) = map (next t es (suc p) (worked t es p)) (range_with_len 0 (length es))

unfoldable pub sheet : Tables → List Element → List WorkedLine
sheet t es = worked t es 64

-- what a program holds of it
unfoldable pub lines : Tables → List Element → List Line
lines t es = map (λ i. shown (el es i) (at (sheet t es) i)) (range_with_len 0 (length es))

-- the number of the first element with a thin flow, where the first line has the number k + 1; 0 if there is none
abbrev pub first_thin : List WorkedLine → ℕ → ℕ
first_thin [] k = 0
first_thin (l ∷ ls) k = cond (thin l) (suc k) (first_thin ls (suc k))
