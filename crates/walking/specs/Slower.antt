-- Tables whose speeds are taken times a per mille.
use Rattle.std.specs.Prelude.{ℕ, ◌*◌, ◌/◌, min, max, map}
use Rattle.walking.specs.Curves.{Row, Curve, Tables, entry, flow, speed}

abbrev pub slowed : ℕ → ℕ → ℕ
slowed k v = max 100 (v * min k 1000 / 1000)

abbrev pub slow_row : ℕ → Row → Row
slow_row k r = (entry r, flow r, slowed k (speed r))

abbrev pub slow_curve : ℕ → Curve → Curve
slow_curve k c = map (slow_row k) c

abbrev pub slower : ℕ → Tables → Tables
slower k t = record {
  density = slow_curve k t.density;
  corridor = slow_curve k t.corridor;
  down = slow_curve k t.down;
  up = slow_curve k t.up;
  door = t.door;
}
