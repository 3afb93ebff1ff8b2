-- What every walking tables keep.
use Rattle.std.specs.Prelude.{◌≡◌, ℕ, ◌+◌, ◌-◌, ◌*◌, ◌<◌, ◌≤◌, [], ◌∷◌, length}
use Rattle.walking.specs.Curves.{Row, Curve, Tables, entry, flow, speed, row_at}

abbrev pub Within : ℕ → ℕ → ℕ → Type 0
Within lo x hi = (lo ≤ x) × (x ≤ hi)

-- what holds of each row
abbrev pub Each : (Row → Type 0) → Curve → Type 0
Each P [] = Unit {0}
Each P (a ∷ rest) = P a × Each P rest

-- what holds of each two neighbouring rows, from the row a on
abbrev pub Onward : (Row → Row → Type 0) → Row → Curve → Type 0
Onward P a [] = Unit {0}
Onward P a (b ∷ rest) = P a b × Onward P b rest

abbrev pub EachStep : (Row → Row → Type 0) → Curve → Type 0
EachStep P [] = Unit {0}
EachStep P (a ∷ rest) = Onward P a rest

-- a and b differ by at most twice d
abbrev pub Apart : ℕ → ℕ → ℕ → Type 0
Apart d a b = (a ≤ b + 2 * d) × (b ≤ a + 2 * d)

-- curve 1
pub record DensityRow (r : Row) : Type 0 where
  pub ends : entry r ≤ 10000
  pub flows : flow r ≤ 2000
  pub speeds : Within 100 (speed r) 2000

pub record DensityStep (a b : Row) : Type 0 where
  pub rises : entry a < entry b
  -- every flow but the first is above 0
  pub flows : 1 ≤ flow b
  pub flow_apart : Apart (entry b - entry a) (flow a) (flow b)
  pub speed_apart : Apart (entry b - entry a) (speed a) (speed b)

pub record DensityLaw (c : Curve) : Type 0 where
  pub few : Within 2 (length c) 8
  pub starts : entry (row_at c 0) ≡ 0
  pub still : flow (row_at c 0) ≡ 0
  pub rows : Each DensityRow c
  pub steps : EachStep DensityStep c

-- curves 2 to 4
pub record FlowRow (r : Row) : Type 0 where
  pub ends : entry r ≤ 2000
  pub same : flow r ≡ entry r
  pub speeds : Within 100 (speed r) 2000

pub record FlowStep (a b : Row) : Type 0 where
  pub rises : entry a < entry b
  pub falls : speed b ≤ speed a
  pub slowly : speed a ≤ speed b + (entry b - entry a)

pub record FlowLaw (c : Curve) : Type 0 where
  pub few : Within 2 (length c) 8
  pub starts : entry (row_at c 0) ≡ 0
  pub rows : Each FlowRow c
  pub steps : EachStep FlowStep c

pub record Lawful (t : Tables) : Type 0 where
  pub density : DensityLaw t.density
  pub corridor : FlowLaw t.corridor
  pub down : FlowLaw t.down
  pub up : FlowLaw t.up
  pub door : Within 1 t.door 2000
