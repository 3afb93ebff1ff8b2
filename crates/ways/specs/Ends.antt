-- The two ends of a network's time and the element that governs it: in words, and as functions that list all used routes.
use Rattle.std.specs.Prelude.{◌≡◌, ℕ, zero, suc, ◌+◌, ◌<◌, ◌≤◌, max, Bool, true, false, cond, ◌&&◌, ◌||◌, ◌⊎◌, List, [], ◌∷◌, ◌++◌, map, length, ◌==◌, nat_lt}
use Rattle.std.specs.List.{range_with_len}
use Rattle.exact.specs.declared.Ends.{Ends}
use Rattle.exact.specs.Worked.{Worked, ends}
use Rattle.network.specs.declared.Element.{Element}
use Rattle.network.specs.Elements.{el}
use Rattle.sheet.specs.Lines.{WorkedLine, at}
use Rattle.ways.specs.declared.End.{End}
use Rattle.ways.specs.declared.End.TheVariants.{Lower, Upper}
use Rattle.ways.specs.Routes.{Used, summed, duration_of, travel_of, time}

-- one end of a quantity, as a program holds it and as it is worked
abbrev pub end_of : End → Ends → ℕ
end_of Lower x = x.lower
end_of Upper x = x.upper

abbrev pub by : End → Worked → ℕ
by e w = end_of e (ends w)

-- ---- in words

-- x is the greatest time of a used route by one end: by the lower ends it is the lower end of the network's time, by the
-- upper ends the upper end
pub record IsEnd (e : End) (es : List Element) (ls : List WorkedLine) (x : ℕ) : Type 0 where
  pub bounds : (r : List ℕ) → Used es ls r → by e (time es ls r) ≤ x
  pub reached : (r : List ℕ) × Used es ls r × (by e (time es ls r) ≡ x)

-- x stands in a list
abbrev pub In : {X : Type 0} → X → List X → Type 0
In x [] = ⊥
In x (y ∷ ys) = (x ≡ y) ⊎ In x ys

-- the flow duration of element i with all travels of r
abbrev pub time_with : End → List Element → List WorkedLine → ℕ → List ℕ → ℕ
time_with e es ls i r = by e (duration_of ls i) + summed (λ j. by e (travel_of es ls j)) r

-- x is the flow duration of element i with the longest travel of a used route through it
pub record Through (e : End) (es : List Element) (ls : List WorkedLine) (i x : ℕ) : Type 0 where
  pub bounds : (r : List ℕ) → Used es ls r → In i r → time_with e es ls i r ≤ x
  pub reached : (r : List ℕ) × Used es ls r × In i r × (time_with e es ls i r ≡ x)

-- element i governs: that is greatest for it, and for no lower one
pub record Governs (e : End) (es : List Element) (ls : List WorkedLine) (i : ℕ) : Type 0 where
  pub most : ℕ
  pub here : Through e es ls i most
  pub none_above : (j y : ℕ) → Through e es ls j y → y ≤ most
  pub first : (j y : ℕ) → j < i → Through e es ls j y → y < most

-- ---- as functions

-- the lists one after another
abbrev pub joined : List (List (List ℕ)) → List (List ℕ)
joined [] = []
joined (x ∷ rest) = x ++ joined rest

-- element i leaves the point p and someone passes it
abbrev pub open_at : List Element → List WorkedLine → ℕ → ℕ → Bool
open_at es ls p i = (el es i).from == p && nat_lt 0 (at ls i).persons

-- all ways on from the point p, of at most k elements; from 0 on they start at a source
unfoldable pub ways : ℕ → List Element → List WorkedLine → ℕ → List (List ℕ)
ways zero es ls p = []
ways (suc k) es ls p =
    joined (map (λ i. elim (open_at es ls p i) [ false ↦ [] | true ↦ elim ((el es i).to == 0) [ true ↦ (i ∷ []) ∷ [] | false ↦ map (λ w. i ∷ w) (ways k es ls (el es i).to) ] ]) (range_with_len 0 (length es)))

-- all used routes: the points on one rise from 1 to 64, so it has at most 65 elements
unfoldable pub routes : List Element → List WorkedLine → List (List ℕ)
routes es ls = ways 65 es ls 0

abbrev pub highest : (List ℕ → ℕ) → List (List ℕ) → ℕ
highest f [] = 0
highest f (r ∷ rest) = max (f r) (highest f rest)

-- the greatest time of a used route by one end, and both ends of the network's time
unfoldable pub greatest_time : End → List Element → List WorkedLine → ℕ
greatest_time e es ls = highest (λ r. by e (time es ls r)) (routes es ls)

abbrev pub lower_end : List Element → List WorkedLine → ℕ
lower_end es ls = greatest_time Lower es ls

abbrev pub upper_end : List Element → List WorkedLine → ℕ
upper_end es ls = greatest_time Upper es ls

abbrev pub on : ℕ → List ℕ → Bool
on i [] = false
on i (j ∷ r) = i == j || on i r

-- 0 where no used route goes through element i; else one more than its flow duration with the longest travel of those that do
unfoldable pub weight : End → List Element → List WorkedLine → ℕ → ℕ
weight e es ls i = highest (λ r. cond (on i r) (1 + time_with e es ls i r) 0) (routes es ls)

-- the lowest index below k of the greatest weight
abbrev pub first_best : (ℕ → ℕ) → ℕ → ℕ
first_best w zero = 0
first_best w (suc k) = cond (nat_lt (w (first_best w k)) (w k)) k (first_best w k)

-- the number of the governing element, from 1, by one end
unfoldable pub governing_by : End → List Element → List WorkedLine → ℕ
governing_by e es ls = 1 + first_best (weight e es ls) (length es)

-- the upper ends decide which element governs
abbrev pub governing : List Element → List WorkedLine → ℕ
governing es ls = governing_by Upper es ls
