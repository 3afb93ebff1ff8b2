-- The search for the rows that a quantity lies between.
use Rattle.std.proofs.Common.{◌≡◌, ℕ, ◌+◌, ◌*◌, ◌<◌, ◌≤◌, leb, [], ◌∷◌, length, drop, refl, ◌∙◌, arith}
use Rattle.std.proofs.lemmas.List.{drop_more, drop_all}
use Rattle.std.proofs.lemmas.Bool.{cond-true, cond-false, le-leb, lt-leb}
use Rattle.exact.specs.Fractions.{whole}
use Rattle.walking.specs.Curves.{Row, Curve, Tables, entry, curve_of, row_at, row_of}
use Rattle.walking.specs.Laws.{Each, Onward, DensityLaw, FlowLaw, DensityRow, DensityStep, FlowRow, FlowStep, Lawful}
use Rattle.walking.proofs.Rows.{at_curve, row_within}
use Rattle.curves.specs.declared.Column.{Column}
use Rattle.curves.specs.Reading.{values, mega, segment, onward, read}
use Rattle.curves.proofs.Steps.{Rises}
use Rattle.curves.proofs.Kept.{each_so, steps_so}
use Rattle.reading.specs.declared.parts.Part.TheVariants.{Between, Past}
use Rattle.reading.specs.Parts.{Small, Found}

-- what the search wants of a curve
pub record Searched (c : Curve) : Type 0 where
  pub some : 0 < length c
  pub starts : entry (row_at c 0) ≡ 0
  pub rises : Onward Rises (row_at c 0) (drop 1 c)
  pub small : Small (row_at c 0)
  pub smalls : Each Small (drop 1 c)

small_density : (a : Row) → DensityRow a → Small a
small_density a s = record { ends = s.ends; flows = s.flows; speeds = s.speeds.1 }

small_flow : (a : Row) → FlowRow a → Small a
small_flow a s = record { ends = omega arith; flows = omega arith; speeds = s.speeds.1 }

searched_density : (c : Curve) → DensityLaw c → Searched c
searched_density [] h = absurd (omega (arith, h.few.0))
searched_density (a ∷ rest) h = record {
  some = omega arith;
  starts = h.starts;
  rises = steps_so DensityStep Rises (λ a b s. s.rises) a rest h.steps;
  small = small_density a h.rows.0;
  smalls = each_so DensityRow Small small_density rest h.rows.1;
}

searched_flow : (c : Curve) → FlowLaw c → Searched c
searched_flow [] h = absurd (omega (arith, h.few.0))
searched_flow (a ∷ rest) h = record {
  some = omega arith;
  starts = h.starts;
  rises = steps_so FlowStep Rises (λ a b s. s.rises) a rest h.steps;
  small = small_flow a h.rows.0;
  smalls = each_so FlowRow Small small_flow rest h.rows.1;
}

searched : (t : Tables) → Lawful t → (n : ℕ) → Searched (curve_of t n)
searched t h n = at_curve Searched t n (searched_density t.density h.density) (searched_flow t.corridor h.corridor) (searched_flow t.down h.down) (searched_flow t.up h.up)

-- the row before, the rows ahead, and what is read at x in any column
pub record Going (rows : Curve) (before : Row) (ahead : Curve) (x : ℕ) : Type 0 where
  pub same : (k : Column) → read (values k) rows (whole x) ≡ onward (values k) before ahead (whole x)
  pub rises : Onward Rises before ahead
  pub small : Small before
  pub smalls : Each Small ahead
  pub reached : entry before * mega ≤ x

start : (rows : Curve) (b : Row) (x : ℕ) → b ≡ row_at rows 0 → Searched rows → Going rows b (drop 1 rows) x
start [] b x e s = absurd (omega (arith, s.some))
start (a ∷ more) b x e s = rw e (record { same = λ k. refl; rises = s.rises; small = s.small; smalls = s.smalls; reached = rw s.starts (omega arith) })

turn : (rows : Curve) (before b : Row) (i x : ℕ) → b ≡ row_at rows i → i < length rows → Going rows before (drop i rows) x → Going rows before (b ∷ drop (i + 1) rows) x
turn rows before b i x e h g = rw e (rw (drop_more rows i (0, 0, 0) h) at g)

-- the same, of the rows that the tables answer
module _ (t : Tables) (w : Lawful t) (n x : ℕ) (b : Row) where
  pub start_at : b ≡ row_of t n 0 → Going (curve_of t n) b (drop 1 (curve_of t n)) x
  start_at e = let s = searched t w n in start (curve_of t n) b x (e ∙ row_within t n 0 s.some) s

  pub turn_at : (before : Row) (i : ℕ) → b ≡ row_of t n i → i < length (curve_of t n) → Going (curve_of t n) before (drop i (curve_of t n)) x → Going (curve_of t n) before (b ∷ drop (i + 1) (curve_of t n)) x
  turn_at before i e l g = turn (curve_of t n) before b i x (e ∙ row_within t n i l) l g

pub here : (rows : Curve) (before b : Row) (more : Curve) (x : ℕ) → Going rows before (b ∷ more) x → x ≤ entry b * mega → Found rows x (Between before b)
here rows before b more x g h = record {
  same = λ k. g.same k ∙ cond-true (leb x (entry b * mega * 1)) (segment (values k) before b (whole x)) (onward (values k) b more (whole x)) (le-leb x (entry b * mega * 1) (omega arith));
  fits = record { first = g.small; second = g.smalls.0; rises = g.rises.0; reached = g.reached; within = h };
}

pub next : (rows : Curve) (before b : Row) (more : Curve) (x : ℕ) → Going rows before (b ∷ more) x → entry b * mega < x → Going rows b more x
next rows before b more x g h = record {
  same = λ k. g.same k ∙ cond-false (leb x (entry b * mega * 1)) (segment (values k) before b (whole x)) (onward (values k) b more (whole x)) (lt-leb x (entry b * mega * 1) (omega arith));
  rises = g.rises.1;
  small = g.smalls.0;
  smalls = g.smalls.1;
  reached = omega arith;
}

pub finish : (rows : Curve) (before : Row) (i x : ℕ) → length rows ≤ i → Going rows before (drop i rows) x → Found rows x (Past before)
finish rows before i x h g = record { same = λ k. g.same k ∙ rw (drop_all i rows h); fits = g.small }
