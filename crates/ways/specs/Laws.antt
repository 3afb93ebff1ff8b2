-- What holds of used routes, of both ends and of the governing element, in every ready network whose worksheet keeps the facts.
use Rattle.std.specs.Prelude.{◌≡◌, ℕ, ◌+◌, ◌*◌, ◌≤◌, List, length}
use Rattle.exact.specs.Fractions.{Fraction, Proper, ◌≤ᶠ◌, whole}
use Rattle.exact.specs.Worked.{Encloses}
use Rattle.network.specs.declared.Element.{Element}
use Rattle.network.specs.Ready.{Ready}
use Rattle.sheet.specs.Lines.{WorkedLine}
use Rattle.ways.specs.declared.End.{End}
use Rattle.ways.specs.declared.End.TheVariants.{Upper}
use Rattle.ways.specs.Routes.{Crossed, Used, time, Slowest}
use Rattle.ways.specs.Ends.{In, IsEnd, Through, Governs, routes, greatest_time, lower_end, upper_end, governing}
use Rattle.ways.specs.Facts.{Facts}

-- ---- routes

-- every element that someone passes lies on a used route, so there is one
abbrev pub PassedIsOnARoute : Type 0
PassedIsOnARoute = (es : List Element) (ls : List WorkedLine) → Ready es → Facts es ls → (i : ℕ) → Crossed es ls i → (r : List ℕ) × Used es ls r × In i r

abbrev pub RouteExists : Type 0
RouteExists = (es : List Element) (ls : List WorkedLine) → Ready es → Facts es ls → (r : List ℕ) × Used es ls r

-- the listed routes are the used ones and no other
abbrev pub ListedIsUsed : Type 0
ListedIsUsed = (es : List Element) (ls : List WorkedLine) → Ready es → (r : List ℕ) → (Used es ls r → In r (routes es ls)) × (In r (routes es ls) → Used es ls r)

-- ---- words and functions agree

-- a number is what the function gives exactly where it is the greatest time of a used route
abbrev pub EndsAgree : Type 0
EndsAgree = (e : End) (es : List Element) (ls : List WorkedLine) → Ready es → Facts es ls
    → (x : ℕ) → (IsEnd e es ls x → x ≡ greatest_time e es ls) × (x ≡ greatest_time e es ls → IsEnd e es ls x)

-- elements are numbered from 1
abbrev pub GoverningAgrees : Type 0
GoverningAgrees = (es : List Element) (ls : List WorkedLine) → Ready es → Facts es ls
    → (i : ℕ) → (Governs Upper es ls i → 1 + i ≡ governing es ls) × (1 + i ≡ governing es ls → Governs Upper es ls i)

-- the longest time that the governing element makes is the upper end
abbrev pub GoverningMakesTheEnd : Type 0
GoverningMakesTheEnd = (es : List Element) (ls : List WorkedLine) → Ready es → Facts es ls → (i : ℕ) → Governs Upper es ls i → Through Upper es ls i (upper_end es ls)

-- ---- what the ends say of exact times

-- a used route's exact time lies between its lower and its upper time
abbrev pub TimeEncloses : Type 0
TimeEncloses = (es : List Element) (ls : List WorkedLine) → Ready es → Facts es ls → (r : List ℕ) → Used es ls r → Encloses (time es ls r)

-- no used route takes longer than the upper end, and one takes at least the lower end
abbrev pub NoneAbove : Type 0
NoneAbove = (es : List Element) (ls : List WorkedLine) → Ready es → Facts es ls → (r : List ℕ) → Used es ls r → (time es ls r).exact ≤ᶠ whole (upper_end es ls)

abbrev pub OneReaches : Type 0
OneReaches = (es : List Element) (ls : List WorkedLine) → Ready es → Facts es ls → (r : List ℕ) × Used es ls r × (whole (lower_end es ls) ≤ᶠ (time es ls r).exact)

-- there is a slowest time, and it lies between the ends
abbrev pub SlowestExists : Type 0
SlowestExists = (es : List Element) (ls : List WorkedLine) → Ready es → Facts es ls → (t : Fraction) × Slowest es ls t

abbrev pub SlowestBetween : Type 0
SlowestBetween = (es : List Element) (ls : List WorkedLine) → Ready es → Facts es ls
    → (t : Fraction) → Slowest es ls t → Proper t × (whole (lower_end es ls) ≤ᶠ t) × (t ≤ᶠ whole (upper_end es ls))

-- ---- how near the ends are

-- in a network of n elements: 31 n ten-millionths of the lower end and 3 (n + 1) microseconds apart at most
abbrev pub EndsNear : Type 0
EndsNear = (es : List Element) (ls : List WorkedLine) → Ready es → Facts es ls
    → 10000000 * upper_end es ls ≤ 10000000 * lower_end es ls + 31 * length es * lower_end es ls + 30000000 * (length es + 1)

-- so in any network a thousandth of the lower end and a millisecond
abbrev pub EndsClose : Type 0
EndsClose = (es : List Element) (ls : List WorkedLine) → Ready es → Facts es ls → 1000 * upper_end es ls ≤ 1001 * lower_end es ls + 1000000

-- ---- there is such a worksheet

abbrev pub SomeWorksheet : Type 0
SomeWorksheet = (es : List Element) × (ls : List WorkedLine) × Ready es × Facts es ls
