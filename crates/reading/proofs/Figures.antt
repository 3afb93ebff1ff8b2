-- What a source corridor gives, over plain values.
use Rattle.std.proofs.Common.{◌≡◌, ℕ, ◌+◌, ◌-◌, ◌*◌, ◌/◌, ◌<◌, ◌≤◌, ap, ◌∙◌, mul-le-mul_left, mul-pos, arith}
use native.Mathlib.Nat.{mul-sub}
use Rattle.exact.specs.declared.Ends.{Ends}
use Rattle.exact.specs.Fractions.{Fraction}
use Rattle.exact.specs.Worked.{Worked, Encloses, Gives, gap, ends, around}
use Rattle.exact.proofs.Rounding.{rounded_encloses, ends_in_order}
use Rattle.exact.proofs.Formulas.{scaled_encloses}
use Rattle.walking.specs.Curves.{Tables}
use Rattle.walking.specs.Laws.{Lawful}
use Rattle.curves.specs.declared.Column.{Column}
use Rattle.curves.specs.declared.Column.TheVariants.{Flow}
use Rattle.curves.specs.Reading.{values, read_across}
use Rattle.curves.proofs.Readings.{across_encloses, columns_in_range}
use Rattle.reading.specs.Sources.{SourceRanges, density, source_specific_flow, source_flow, through}

-- through a width of 10 m at most, 3 become 31 at most
source_apart : (l u k a b : ℕ) → k ≤ 10000 → u - l ≤ 3 → l * k < a * 1000 + 1000 → b * 1000 < u * k + 1000 → b - a ≤ 31
source_apart l u k a b t g p q = omega (arith, mul-sub k u l, mul-le-mul_left k g)

pub through_near : (k : ℕ) (w : Worked) → k ≤ 10000 → gap w ≤ 3 → gap (through k w) ≤ 31
through_near k w t g =
    let l = w.lower in
    let u = w.upper in
    source_apart l u k (l * k / 1000) ((u * k + 999) / 1000) t g (omega arith) (omega arith)

-- between two readings of a column
across_most : (t : Tables) → Lawful t → (k : Column) (w : Worked) → (read_across (values k) t.density w).upper ≤ 2000000000
across_most t lawful k w = omega (arith, columns_in_range t lawful 1 k w.lower, columns_in_range t lawful 1 k w.upper)

module _ (t : Tables) (lawful : Lawful t) (p w l : ℕ) (ranges : SourceRanges p w l) where
  pub density_encloses : Encloses (density p w l) × (gap (density p w l) ≤ 1)
  density_encloses = rounded_encloses (density p w l).exact (mul-pos (omega (arith, ranges.width.0)) (omega (arith, ranges.length.0)))

  -- a column, from what the reading of it promises
  pub column_gives : (k : Column) (d r : Ends) → d ≡ ends (density p w l) → ((x : Fraction) → r ≡ ends (read_across (values k) t.density (around d x))) → Gives 3 r (read_across (values k) t.density (density p w l))
  column_gives k d r e v =
      let a = across_encloses t lawful k (density p w l) density_encloses.0 density_encloses.1 in
      record { value = v (density p w l).exact ∙ ap (λ (f : Ends). ends (read_across (values k) t.density (around f (density p w l).exact))) e; encloses = a.0; near = a.1 }

  pub specific_flow_small : (r : Ends) → r ≡ ends (source_specific_flow t p w l) → (r.lower ≤ 2000000000) × (r.upper ≤ 2000000000)
  specific_flow_small r e =
      let a = across_encloses t lawful Flow (density p w l) density_encloses.0 density_encloses.1 in
      let o = ends_in_order (source_specific_flow t p w l) a.0 in
      let m = across_most t lawful Flow (density p w l) in
      (omega (arith, ap (λ (f : Ends). f.lower) e), omega (arith, ap (λ (f : Ends). f.upper) e))

  pub flow_gives : (s r : Ends) → s ≡ ends (source_specific_flow t p w l) → ((x : Fraction) → r ≡ ends (through w (around s x))) → Gives 31 r (source_flow t p w l)
  flow_gives s r e v =
      let q = source_specific_flow t p w l in
      let a = across_encloses t lawful Flow (density p w l) density_encloses.0 density_encloses.1 in
      record {
        value = v q.exact ∙ ap (λ (f : Ends). ends (through w (around f q.exact))) e;
        encloses = scaled_encloses w 1000 q (omega arith) a.0;
        near = through_near w q ranges.width.1 a.1;
      }
