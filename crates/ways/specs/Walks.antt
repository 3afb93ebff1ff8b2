-- Walks from point to point, and how the longest of them are found.
use Rattle.std.specs.Prelude.{◌≡◌, ℕ, zero, suc, ◌+◌, ◌-◌, ◌<◌, ◌≤◌, max, cond, ◌&&◌, ◌⊎◌, List, [], ◌∷◌, length, ◌==◌, ◌≢◌, nat_lt, slice_index, slice_index_or}
use Rattle.network.specs.declared.Element.{Element}
use Rattle.network.specs.Elements.{el}
use Rattle.sheet.specs.declared.Line.{Line}
use Rattle.sheet.specs.Lines.{no_line}
use Rattle.ways.specs.declared.End.{End}
use Rattle.ways.specs.declared.Way.{Way}
use Rattle.ways.specs.declared.Way.TheVariants.{Back, Onward}
use Rattle.ways.specs.Routes.{summed}
use Rattle.ways.specs.Ends.{end_of}

-- A network as it is walked: where its elements lead from and to, who passes them, and how long they take by one end.
pub record Net : Type 0 where
  pub size : ℕ
  pub from : ℕ → ℕ
  pub to : ℕ → ℕ
  pub persons : ℕ → ℕ
  pub duration : ℕ → ℕ
  pub travel : ℕ → ℕ

-- from the line of each element, and from the lines that a program holds
abbrev pub net : End → List Element → (ℕ → Line) → Net
net e es line = record {
  size = length es;
  from = λ i. (el es i).from;
  to = λ i. (el es i).to;
  persons = λ i. (line i).persons;
  duration = λ i. end_of e (line i).flow_duration;
  travel = λ i. end_of e (line i).travel;
}

abbrev pub net_of : End → List Element → List Line → Net
net_of e es held = net e es (λ i. slice_index_or held i no_line)

-- someone passes element i
abbrev pub Passed : Net → ℕ → Type 0
Passed n i = (i < n.size) × (0 < n.persons i)

-- where a walk enters an element, and where it leaves it
abbrev pub near_point : Way → ℕ → ℕ → ℕ
near_point Back from to = to
near_point Onward from to = from

abbrev pub far_point : Way → ℕ → ℕ → ℕ
far_point Back from to = from
far_point Onward from to = to

-- the k-th point of a pass over all points: rising on the way back, falling on the way onward
abbrev pub point_at : Way → ℕ → ℕ
point_at Back k = k
point_at Onward k = 65 - k

abbrev pub near : Way → Net → ℕ → ℕ
near w n i = near_point w (n.from i) (n.to i)

abbrev pub far : Way → Net → ℕ → ℕ
far w n i = far_point w (n.from i) (n.to i)

-- r walks from the point p to a source or to the station, through elements that someone passes; both are the point 0
abbrev pub Walks : Way → Net → ℕ → List ℕ → Type 0
Walks w n p [] = p ≡ 0
Walks w n p (i ∷ r) = (0 < p) × Passed n i × (near w n i ≡ p) × Walks w n (far w n i) r

-- x is the longest travel of a walk from p, and 0 where nobody can walk from there
pub record Longest (w : Way) (n : Net) (p x : ℕ) : Type 0 where
  pub bounds : (r : List ℕ) → Walks w n p r → summed n.travel r ≤ x
  pub reached : ((r : List ℕ) × Walks w n p r × (summed n.travel r ≡ x)) ⊎ ((x ≡ 0) × ((i : ℕ) → Passed n i → near w n i ≢ p))

-- the longest walks from all points
abbrev pub Reaches : Way → Net → List ℕ → Type 0
Reaches w n reach = (p : ℕ) → p ≤ 64 → Longest w n p (slice_index reach p)

-- what an element makes of the walks that are known: 0 unless it is entered at p and someone passes it
abbrev pub gain : List ℕ → ℕ → ℕ → ℕ → ℕ → ℕ → ℕ
gain reach persons travel near far p = cond (nat_lt 0 persons && near == p) (slice_index reach far + travel) 0

abbrev pub gains : Way → Net → List ℕ → ℕ → ℕ → ℕ
gains w n reach p i = gain reach (n.persons i) (n.travel i) (near w n i) (far w n i) p

-- the greatest of g 0 to g (k - 1), and 0 if k is 0
abbrev pub most_below : (ℕ → ℕ) → ℕ → ℕ
most_below g zero = 0
most_below g (suc k) = max (most_below g k) (g k)

abbrev pub longest_from : Way → Net → List ℕ → ℕ → ℕ
longest_from w n reach p = most_below (gains w n reach p) n.size

-- 0 where nobody passes an element; else one more than its flow duration with the longest walks back and onward from it
abbrev pub rank : List ℕ → List ℕ → ℕ → ℕ → ℕ → ℕ → ℕ → ℕ
rank back onward persons duration travel from to = cond (nat_lt 0 persons) (1 + duration + slice_index back from + travel + slice_index onward to) 0

abbrev pub ranks : Net → List ℕ → List ℕ → ℕ → ℕ
ranks n back onward i = rank back onward (n.persons i) (n.duration i) (n.travel i) (n.from i) (n.to i)

-- i is the first index below k at which f is greatest, and x is that greatest
pub record FirstMost (f : ℕ → ℕ) (k i x : ℕ) : Type 0 where
  pub within : i < k
  pub here : f i ≡ x
  pub none_above : (j : ℕ) → j < k → f j ≤ x
  pub first : (j : ℕ) → j < i → f j < x

-- a walk has at most 64 elements and each takes 10^17 microseconds at most, so that 64 bits hold every sum
abbrev pub Low : List ℕ → Type 0
Low reach = (p : ℕ) → slice_index reach p ≤ 6400000000000000000

-- a network whose longest walks can be found
pub record Walkable (n : Net) : Type 0 where
  pub size : n.size ≤ 128
  -- points rise from element to element, up to 64
  pub starts : (i : ℕ) → i < n.size → n.from i ≤ 64
  pub ends : (i : ℕ) → i < n.size → n.to i ≤ 64
  pub rises : (i : ℕ) → i < n.size → 0 < n.to i → n.from i < n.to i
  -- someone is on the way, whoever comes to a point leaves it, and whoever leaves it has come
  pub some : (i : ℕ) × Passed n i
  pub goes : (i : ℕ) → Passed n i → 0 < n.to i → (j : ℕ) × Passed n j × (n.from j ≡ n.to i)
  pub came : (i : ℕ) → Passed n i → 0 < n.from i → (j : ℕ) × Passed n j × (n.to j ≡ n.from i)
  -- sums of microseconds fit 64 bits
  pub durations : (i : ℕ) → i < n.size → n.duration i ≤ 1000000000000
  pub travels : (i : ℕ) → i < n.size → n.travel i ≤ 100000000000000000
