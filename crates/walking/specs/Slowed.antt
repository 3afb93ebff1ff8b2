-- A slower walk keeps the laws.
use Rattle.std.specs.Prelude.{◌≡◌, ℕ, ◌+◌, ◌-◌, ◌*◌, ◌≤◌, min, [], ◌∷◌, map}
use Rattle.std.proofs.Common.{mul-le-mul_right, mul-le-mul_left, add-mul, arith}
use Rattle.std.proofs.lemmas.List.{length-map}
use Rattle.walking.specs.Curves.{Row, Curve, Tables, entry, flow, speed, row_at}
use Rattle.walking.specs.Laws.{Each, Onward, EachStep, DensityRow, DensityStep, DensityLaw, FlowRow, FlowStep, FlowLaw, Lawful}
use Rattle.walking.specs.Slower.{slowed, slow_row, slow_curve, slower}

-- laws of rows and of steps, through a map

pub each_map : (P Q : Row → Type 0) (f : Row → Row) → ((a : Row) → P a → Q (f a)) → (c : Curve) → Each P c → Each Q (map f c)
each_map P Q f h [] t = tt
each_map P Q f h (a ∷ rest) t = (h a t.0, each_map P Q f h rest t.1)

pub onward_map : (P Q : Row → Row → Type 0) (f : Row → Row) → ((a b : Row) → P a b → Q (f a) (f b)) → (a : Row) (c : Curve) → Onward P a c → Onward Q (f a) (map f c)
onward_map P Q f h a [] t = tt
onward_map P Q f h a (b ∷ rest) t = (h a b t.0, onward_map P Q f h b rest t.1)

pub each_step_map : (P Q : Row → Row → Type 0) (f : Row → Row) → ((a b : Row) → P a b → Q (f a) (f b)) → (c : Curve) → EachStep P c → EachStep Q (map f c)
each_step_map P Q f h [] t = tt
each_step_map P Q f h (a ∷ rest) t = onward_map P Q f h a rest t

-- the per mille

pub slowed_falls : (k v w : ℕ) → v ≤ w → slowed k v ≤ slowed k w
slowed_falls k v w h = let m : v * min k 1000 ≤ w * min k 1000 = mul-le-mul_right (min k 1000) h in omega arith

pub slowed_slowly : (k v w d : ℕ) → v ≤ w + d → slowed k v ≤ slowed k w + d
slowed_slowly k v w d h =
    let m : v * min k 1000 ≤ (w + d) * min k 1000 = mul-le-mul_right (min k 1000) h in
    let e : (w + d) * min k 1000 ≡ w * min k 1000 + d * min k 1000 = add-mul w d (min k 1000) in
    let l : min k 1000 ≤ 1000 = omega arith in
    let n : d * min k 1000 ≤ d * 1000 = mul-le-mul_left d l in
    omega arith

pub slowed_high : (k v : ℕ) → v ≤ 2000 → slowed k v ≤ 2000
slowed_high k v h =
    let l : min k 1000 ≤ 1000 = omega arith in
    let n : v * min k 1000 ≤ v * 1000 = mul-le-mul_left v l in
    omega arith

-- rows and steps

slow_density_row : (k : ℕ) (r : Row) → DensityRow r → DensityRow (slow_row k r)
slow_density_row k r h = record { ends = h.ends; flows = h.flows; speeds = (omega arith, slowed_high k (speed r) h.speeds.1) }

slow_flow_row : (k : ℕ) (r : Row) → FlowRow r → FlowRow (slow_row k r)
slow_flow_row k r h = record { ends = h.ends; same = h.same; speeds = (omega arith, slowed_high k (speed r) h.speeds.1) }

slow_density_step : (k : ℕ) (a b : Row) → DensityStep a b → DensityStep (slow_row k a) (slow_row k b)
slow_density_step k a b h = record {
  rises = h.rises;
  flows = h.flows;
  flow_apart = h.flow_apart;
  speed_apart = (
    slowed_slowly k (speed a) (speed b) (2 * (entry b - entry a)) h.speed_apart.0,
    slowed_slowly k (speed b) (speed a) (2 * (entry b - entry a)) h.speed_apart.1,
  );
}

slow_flow_step : (k : ℕ) (a b : Row) → FlowStep a b → FlowStep (slow_row k a) (slow_row k b)
slow_flow_step k a b h = record {
  rises = h.rises;
  falls = slowed_falls k (speed b) (speed a) h.falls;
  slowly = slowed_slowly k (speed a) (speed b) (entry b - entry a) h.slowly;
}

-- curves

first_entry : (k : ℕ) (c : Curve) → entry (row_at c 0) ≡ 0 → entry (row_at (slow_curve k c) 0) ≡ 0
first_entry k [] h = h
first_entry k (a ∷ rest) h = h

first_flow : (k : ℕ) (c : Curve) → flow (row_at c 0) ≡ 0 → flow (row_at (slow_curve k c) 0) ≡ 0
first_flow k [] h = h
first_flow k (a ∷ rest) h = h

slow_density : (k : ℕ) (c : Curve) → DensityLaw c → DensityLaw (slow_curve k c)
slow_density k c h = record {
  few = simp length-map h.few;
  starts = first_entry k c h.starts;
  still = first_flow k c h.still;
  rows = each_map DensityRow DensityRow (slow_row k) (slow_density_row k) c h.rows;
  steps = each_step_map DensityStep DensityStep (slow_row k) (slow_density_step k) c h.steps;
}

slow_flow : (k : ℕ) (c : Curve) → FlowLaw c → FlowLaw (slow_curve k c)
slow_flow k c h = record {
  few = simp length-map h.few;
  starts = first_entry k c h.starts;
  rows = each_map FlowRow FlowRow (slow_row k) (slow_flow_row k) c h.rows;
  steps = each_step_map FlowStep FlowStep (slow_row k) (slow_flow_step k) c h.steps;
}

pub slower_lawful : (k : ℕ) (t : Tables) → Lawful t → Lawful (slower k t)
slower_lawful k t h = record {
  density = slow_density k t.density h.density;
  corridor = slow_flow k t.corridor h.corridor;
  down = slow_flow k t.down h.down;
  up = slow_flow k t.up h.up;
  door = h.door;
}
