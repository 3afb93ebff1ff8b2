-- Rows of a curve by their number.
use Rattle.std.proofs.Common.{◌≡◌, ℕ, zero, suc, ◌-◌, ◌<◌, ◌≤◌, Bool, true, false, cond, eqb, [], ◌∷◌, length, refl, ap, ◌∙◌, arith}
use Rattle.std.proofs.lemmas.List.{length-map, get_or-map}
use Rattle.std.proofs.lemmas.Bool.{ne_eqb, true≢false}
use Rattle.walking.specs.Curves.{Row, Curve, Tables, entry, flow, speed, nearest, curve_of, row_at, row_of}
use Rattle.walking.specs.Laws.{Within, Each, DensityLaw, FlowLaw, Lawful, DensityRow, FlowRow}
use Rattle.walking.specs.Slower.{slow_row, slow_curve, slower}

pub each_at : (P : Row → Type 0) (c : Curve) → Each P c → (i : ℕ) → i < length c → P (row_at c i)
each_at P [] h i l = absurd (omega arith)
each_at P (a ∷ rest) h zero l = h.0
each_at P (a ∷ rest) h (suc i) l = each_at P rest h.1 i (omega arith)

-- what holds of four curves holds of the curve of a number
pub at_curve : (P : Curve → Type 0) (t : Tables) (n : ℕ) → P t.density → P t.corridor → P t.down → P t.up → P (curve_of t n)
at_curve P t n a b c d = pick (eqb (nearest 1 4 n) 1) (eqb (nearest 1 4 n) 2) (eqb (nearest 1 4 n) 3)
  where
    pick : (x y z : Bool) → P (cond x t.density (cond y t.corridor (cond z t.down t.up)))
    pick true y z = a
    pick false true z = b
    pick false false true = c
    pick false false false = d

-- what any curve keeps
pub record AnyCurve (c : Curve) : Type 0 where
  pub few : Within 2 (length c) 8
  pub starts : entry (row_at c 0) ≡ 0
  pub ends : (i : ℕ) → i < length c → entry (row_at c i) ≤ 10000
  pub flows : (i : ℕ) → i < length c → flow (row_at c i) ≤ 2000
  pub speeds : (i : ℕ) → i < length c → Within 100 (speed (row_at c i)) 2000

any_density : (c : Curve) → DensityLaw c → AnyCurve c
any_density c h = record {
  few = h.few;
  starts = h.starts;
  ends = λ i l. (each_at DensityRow c h.rows i l).ends;
  flows = λ i l. (each_at DensityRow c h.rows i l).flows;
  speeds = λ i l. (each_at DensityRow c h.rows i l).speeds;
}

any_flow : (c : Curve) → FlowLaw c → AnyCurve c
any_flow c h = record {
  few = h.few;
  starts = h.starts;
  ends = λ i l. omega (arith, (each_at FlowRow c h.rows i l).ends);
  flows = λ i l. omega (arith, (each_at FlowRow c h.rows i l).ends, (each_at FlowRow c h.rows i l).same);
  speeds = λ i l. (each_at FlowRow c h.rows i l).speeds;
}

pub any_curve : (t : Tables) → Lawful t → (n : ℕ) → AnyCurve (curve_of t n)
any_curve t h n = at_curve AnyCurve t n (any_density t.density h.density) (any_flow t.corridor h.corridor) (any_flow t.down h.down) (any_flow t.up h.up)

-- what any row answers
pub record AnyRow (r : Row) : Type 0 where
  pub ends : entry r ≤ 10000
  pub flows : flow r ≤ 2000
  pub speeds : Within 100 (speed r) 2000

pub any_row : (t : Tables) → Lawful t → (n i : ℕ) → AnyRow (row_of t n i)
any_row t h n i =
    let a = any_curve t h n in
    let f : Within 2 (length (curve_of t n)) 8 = a.few in
    let l : nearest 0 (length (curve_of t n) - 1) i < length (curve_of t n) = omega arith in
    record { ends = a.ends _ l; flows = a.flows _ l; speeds = a.speeds _ l }

-- the curve of a number of a slower walk

pub curve_slower : (k : ℕ) (t : Tables) (n : ℕ) → curve_of (slower k t) n ≡ slow_curve k (curve_of t n)
curve_slower k t n = pick (eqb (nearest 1 4 n) 1) (eqb (nearest 1 4 n) 2) (eqb (nearest 1 4 n) 3)
  where
    pick : (x y z : Bool) → cond x (slow_curve k t.density) (cond y (slow_curve k t.corridor) (cond z (slow_curve k t.down) (slow_curve k t.up))) ≡ slow_curve k (cond x t.density (cond y t.corridor (cond z t.down t.up)))
    pick true y z = refl
    pick false true z = refl
    pick false false true = refl
    pick false false false = refl

pub rows_slower : (k : ℕ) (t : Tables) (n : ℕ) → length (curve_of (slower k t) n) ≡ length (curve_of t n)
rows_slower k t n = ap length (curve_slower k t n) ∙ length-map (curve_of t n) (slow_row k)

pub row_slower : (k : ℕ) (t : Tables) → Lawful t → (n i : ℕ) → row_of (slower k t) n i ≡ slow_row k (row_of t n i)
row_slower k t h n i =
    let a : Within 2 (length (curve_of t n)) 8 = (any_curve t h n).few in
    let l : nearest 0 (length (curve_of t n) - 1) i < length (curve_of t n) = omega arith in
    ap (λ c. row_at c (nearest 0 (length c - 1) i)) (curve_slower k t n)
    ∙ ap (λ m. row_at (slow_curve k (curve_of t n)) (nearest 0 (m - 1) i)) (length-map (curve_of t n) (slow_row k))
    ∙ get_or-map (slow_row k) (curve_of t n) (nearest 0 (length (curve_of t n) - 1) i) (0, 0, 0) (0, 0, 0) l

-- a row that there is
pub row_within : (t : Tables) (n i : ℕ) → i < length (curve_of t n) → row_of t n i ≡ row_at (curve_of t n) i
row_within t n i l = let e : nearest 0 (length (curve_of t n) - 1) i ≡ i = omega arith in ap (λ j. row_at (curve_of t n) j) e

-- what holds of curves 2 to 4 holds of the curve of a number from 2 on
pub at_flow_curve : (P : Curve → Type 0) (t : Tables) (n : ℕ) → 2 ≤ n → P t.corridor → P t.down → P t.up → P (curve_of t n)
at_flow_curve P t n l b c d = pick (eqb (nearest 1 4 n) 1) (eqb (nearest 1 4 n) 2) (eqb (nearest 1 4 n) 3) (ne_eqb (nearest 1 4 n) 1 (λ e. omega arith))
  where
    pick : (x y z : Bool) → x ≡ false → P (cond x t.density (cond y t.corridor (cond z t.down t.up)))
    pick true y z e = absurd (true≢false e)
    pick false true z e = b
    pick false false true e = c
    pick false false false e = d
