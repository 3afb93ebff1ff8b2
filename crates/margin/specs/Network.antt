-- The flows of a network, worked from point to point, without lists: each element by its index.
use Rattle.std.specs.Prelude.{◌≡◌, ℕ, zero, suc, ◌+◌, ◌*◌, ◌<◌, ◌≤◌, Bool, cond, ◌&&◌, ◌||◌, ◌⊎◌, ◌==◌, nat_le, nat_lt}
use Rattle.exact.specs.Fractions.{scaled, capped}
use Rattle.exact.specs.Sums.{sum_where, count_where}
use Rattle.exact.specs.Worked.{Worked, Encloses, gap, rising, total}

pub record Network : Type 0 where
  pub count : ℕ
  pub width : ℕ → ℕ
  pub from : ℕ → ℕ
  pub to : ℕ → ℕ
  pub cap : ℕ → ℕ

pub record Sound (n : Network) : Type 0 where
  pub few : n.count ≤ 128
  pub wide : (i : ℕ) → i < n.count → 500 ≤ n.width i
  pub thin : (i : ℕ) → i < n.count → n.width i ≤ 10000
  pub onward : (i : ℕ) → i < n.count → (n.to i ≡ 0) ⊎ (n.from i < n.to i)

abbrev pub comes : Network → ℕ → ℕ → Bool
comes n p i = n.to i == p

abbrev pub leaves : Network → ℕ → ℕ → Bool
leaves n p i = n.from i == p

-- worked once the points up to p are
abbrev pub done : Network → ℕ → ℕ → Bool
done n p i = nat_le (n.from i) p

-- and not yet taken up
abbrev pub in_flight : Network → ℕ → ℕ → Bool
in_flight n p i = nat_le (n.from i) p && (n.to i == 0 || nat_lt p (n.to i))

unfoldable pub width_out : Network → ℕ → ℕ
width_out n p = sum_where n.count (leaves n p) n.width

-- what comes to the point p, from the flows w
unfoldable pub arriving : Network → (ℕ → Worked) → ℕ → Worked
arriving n w p = total n.count (comes n p) w

-- the specific flow in
unfoldable pub specific : Network → (ℕ → Worked) → ℕ → Worked
specific n w p = rising (scaled 1000 (width_out n p)) (arriving n w p)

unfoldable pub cut : Network → (ℕ → Worked) → ℕ → ℕ → Worked
cut n w p i = rising (λ x. capped x (n.cap i)) (specific n w p)

unfoldable pub flow_out : Network → (ℕ → Worked) → ℕ → ℕ → Worked
flow_out n w p i = rising (scaled (n.width i) 1000) (cut n w p i)

abbrev pub next : Network → ℕ → (ℕ → Worked) → ℕ → Worked
next n p w i = cond (leaves n p i) (flow_out n w p i) (w i)

-- the flows once the points 1 to p are worked
unfoldable pub flows : Network → (ℕ → Worked) → ℕ → ℕ → Worked
flows n w zero = w
flows n w (suc p) = next n (suc p) (flows n w p)

-- what the sources give
pub record Sources (n : Network) (w : ℕ → Worked) : Type 0 where
  pub holds : (i : ℕ) → i < n.count → n.from i ≡ 0 → Encloses (w i)
  pub near : (i : ℕ) → i < n.count → n.from i ≡ 0 → (w i).upper ≤ (w i).lower + 31

-- every flow lies between its two ends
abbrev pub FlowsHold : Type 0
FlowsHold = (n : Network) (w : ℕ → Worked) → Sound n → Sources n w → (p i : ℕ) → i < n.count → n.from i ≤ p → Encloses (flows n w p i)

-- and so does all that a point is worked with, wherever an element leaves it
abbrev pub PointsHold : Type 0
PointsHold = (n : Network) (w : ℕ → Worked) → Sound n → Sources n w → (p i : ℕ) → i < n.count → n.from i ≡ suc p
    → Encloses (arriving n (flows n w p) (suc p)) × Encloses (specific n (flows n w p) (suc p)) × Encloses (cut n (flows n w p) (suc p) i)

-- one point widens by 22 at most for each element that leaves
abbrev pub PointWidens : Type 0
PointWidens = (n : Network) (w : ℕ → Worked) → Sound n → (p : ℕ)
    → sum_where n.count (leaves n p) (λ i. gap (flow_out n w p i))
    ≤ sum_where n.count (comes n p) (λ i. gap (w i)) + 22 * count_where n.count (leaves n p)

-- what is in flight is 31 wide at most for each element that is worked
abbrev pub FlightNear : Type 0
FlightNear = (n : Network) (w : ℕ → Worked) → Sound n → Sources n w → (p : ℕ)
    → sum_where n.count (in_flight n p) (λ i. gap (flows n w p i)) ≤ 31 * count_where n.count (done n p)

abbrev pub FlowsNear : Type 0
FlowsNear = (n : Network) (w : ℕ → Worked) → Sound n → Sources n w → (p i : ℕ) → i < n.count → n.from i ≤ p → gap (flows n w p i) ≤ 31 * n.count

abbrev pub SpecificNear : Type 0
SpecificNear = (n : Network) (w : ℕ → Worked) → Sound n → Sources n w → (p i : ℕ) → i < n.count → n.from i ≡ suc p → gap (specific n (flows n w p) (suc p)) + 60 ≤ 62 * n.count
