-- What the sources give.
use Rattle.std.proofs.Common.{◌≡◌, ℕ, ◌+◌, ◌*◌, ◌≤◌, Bool, true, false, eqb, [], ◌∷◌, sym, refl, ap, ◌∙◌, true≢false, mul-le-mul, arith}
use Rattle.std.proofs.lemmas.Bool.{cond_both}
use Rattle.exact.specs.Worked.{Worked, Encloses, gap, exactly}
use Rattle.exact.proofs.Rounding.{exactly_encloses}
use Rattle.exact.proofs.Formulas.{scaled_encloses}
use Rattle.walking.specs.Curves.{Curve, Tables, speed}
use Rattle.walking.specs.Laws.{Within, DensityLaw, FlowLaw, Lawful}
use Rattle.curves.specs.declared.Column.TheVariants.{Flow, Speed}
use Rattle.curves.specs.Reading.{mega}
use Rattle.curves.proofs.Readings.{across_encloses, speeds_in_range}
use Rattle.reading.specs.Sources.{SourceRanges, density, through, source_specific_flow, source_speed}
use Rattle.reading.proofs.Figures.{density_encloses, through_near, specific_flow_small}
use Rattle.network.specs.declared.Kind.{Kind}
use Rattle.network.specs.declared.Kind.TheVariants.{Corridor, Door, StairDown, StairUp}
use Rattle.network.specs.declared.Element.{Element}
use Rattle.sheet.specs.Lines.{WorkedLine}
use Rattle.sheet.specs.Sources.{row_speed, first_speed, empty_source, full_source, source}

-- a speed in range, in a network of e elements
pub record Fast (e : ℕ) (v : Worked) : Type 0 where
  pub encloses : Encloses v
  pub least : 100000000 ≤ v.lower
  pub most : v.upper ≤ 2000000000
  pub near : gap v ≤ 62 * e

-- what a source's line keeps
pub record Good (e : Element) (l : WorkedLine) : Type 0 where
  pub flow_encloses : Encloses l.flow
  pub flow_near : l.flow.upper ≤ l.flow.lower + 31
  pub flow_small : l.flow.upper ≤ 20000000000
  pub speed_encloses : Encloses l.speed
  pub speed_near : gap l.speed ≤ 62
  pub fast : (e.kind ≡ Door → ⊥) → Fast 1 l.speed

abbrev pub is_door : Kind → Bool
is_door Corridor = false
is_door Door = true
is_door StairDown = false
is_door StairUp = false

steady : (v : ℕ) → Within 100 v 2000 → Fast 1 (exactly (v * mega))
steady v h = record { encloses = exactly_encloses (v * mega); least = omega (arith, h.0); most = omega (arith, h.1); near = omega arith }

first_density : (c : Curve) → DensityLaw c → Fast 1 (row_speed c)
first_density [] l = absurd (omega (arith, l.few.0))
first_density (r ∷ rest) l = steady (speed r) l.rows.0.speeds

first_flow : (c : Curve) → FlowLaw c → Fast 1 (row_speed c)
first_flow [] l = absurd (omega (arith, l.few.0))
first_flow (r ∷ rest) l = steady (speed r) l.rows.0.speeds

-- a specific flow of at most two, through ten metres at most
pub through_small : (w : ℕ) (s : Worked) → w ≤ 10000 → s.upper ≤ 2000000000 → (through w s).upper ≤ 20000000000
through_small w s thin small = omega (arith, mul-le-mul small thin)

module _ (t : Tables) (lawful : Lawful t) where
  first_good : (k : Kind) → Encloses (first_speed t k) × (gap (first_speed t k) ≤ 62) × ((k ≡ Door → ⊥) → Fast 1 (first_speed t k))
  first_good Corridor = let f = first_density t.density lawful.density in (f.encloses, f.near, λ _. f)
  first_good Door = (exactly_encloses 0, omega arith, λ d. absurd (d refl))
  first_good StairDown = let f = first_flow t.down lawful.down in (f.encloses, f.near, λ _. f)
  first_good StairUp = let f = first_flow t.up lawful.up in (f.encloses, f.near, λ _. f)

  empty_good : (e : Element) → Good e (empty_source t e)
  empty_good e =
      let f = first_good e.kind in
      record { flow_encloses = exactly_encloses 0; flow_near = omega arith; flow_small = omega arith; speed_encloses = f.0; speed_near = f.1; fast = f.2 }

  corridor_good : (e : Element) → SourceRanges e.persons e.width e.length → Good e (full_source t Corridor e)
  corridor_good e ranges =
      let d = density_encloses t lawful e.persons e.width e.length ranges in
      let q = density e.persons e.width e.length in
      let f = across_encloses t lawful Flow q d.0 d.1 in
      let v = across_encloses t lawful Speed q d.0 d.1 in
      let s = source_specific_flow t e.persons e.width e.length in
      let low = speeds_in_range t lawful 1 q.lower in
      let high = speeds_in_range t lawful 1 q.upper in
      let small = specific_flow_small t lawful e.persons e.width e.length ranges (record { lower = s.lower; upper = s.upper }) refl in
      let n = through_near e.width s ranges.width.1 f.1 in
      let fine : Fast 1 (source_speed t e.persons e.width e.length) = record { encloses = v.0; least = omega (arith, low.0, high.0); most = omega (arith, low.1, high.1); near = omega (arith, v.1) } in
      record {
        flow_encloses = scaled_encloses e.width 1000 s (omega arith) f.0;
        flow_near = omega (arith, n);
        flow_small = through_small e.width s ranges.width.1 small.1;
        speed_encloses = v.0;
        speed_near = omega (arith, v.1);
        fast = λ _. fine;
      }

  door_good : (e : Element) → e.kind ≡ Door → e.width ≤ 10000 → Good e (full_source t Door e)
  door_good e d thin =
      let s = exactly (t.door * mega) in
      record {
        flow_encloses = scaled_encloses e.width 1000 s (omega arith) (exactly_encloses (t.door * mega));
        flow_near = omega (arith, through_near e.width s thin (omega arith));
        flow_small = through_small e.width s thin (omega (arith, lawful.door.1));
        speed_encloses = exactly_encloses 0;
        speed_near = omega arith;
        fast = λ h. absurd (h d);
      }

  full_good : (e : Element) → e.width ≤ 10000 → ((e.kind ≡ Door → ⊥) → SourceRanges e.persons e.width e.length) → (k : Kind) → k ≡ e.kind → Good e (full_source t k e)
  full_good e thin ranges Corridor q = corridor_good e (ranges (λ d. true≢false (sym (ap is_door (q ∙ d)))))
  full_good e thin ranges Door q = door_good e (sym q) thin
  full_good e thin ranges StairDown q = empty_good e
  full_good e thin ranges StairUp q = empty_good e

  pub source_good : (e : Element) → e.width ≤ 10000 → ((e.kind ≡ Door → ⊥) → SourceRanges e.persons e.width e.length) → Good e (source t e)
  unfolding source
  source_good e thin ranges =
      cond_both (eqb e.persons 0) (empty_source t e) (full_source t e.kind e) (Good e)
      (λ _. empty_good e)
      (λ _. full_good e thin ranges e.kind refl)
