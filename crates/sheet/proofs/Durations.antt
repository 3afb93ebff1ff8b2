-- Durations from quantities whose ends are near.
use Rattle.std.proofs.Common.{◌≡◌, ℕ, zero, suc, ◌+◌, ◌-◌, ◌*◌, ◌/◌, ◌^◌, ◌<◌, ◌≤◌, false, eqb, List, [], ◌∷◌, length, sym, ap, ◌∙◌, subst, inl, inr, ⊎_elim, true≢false, mul-le-mul_left, div-mul-le_self, arith}
use native.Mathlib.Nat.{lt-div-mul-add}
use Rattle.std.proofs.lemmas.Bool.{cases_lt, cases_Bool, ne_eqb, lt-ltb, and_from, cond-true, cond-false}
use Rattle.exact.specs.Fractions.{over}
use Rattle.exact.specs.Worked.{Worked, Encloses, gap, exactly, falling}
use Rattle.exact.proofs.Formulas.{over_encloses}
use Rattle.exact.proofs.Rounding.{exactly_encloses, ends_in_order}
use Rattle.network.specs.declared.Kind.{Kind}
use Rattle.network.specs.declared.Kind.TheVariants.{Corridor, Door, StairDown, StairUp}
use Rattle.network.specs.declared.Element.{Element}
use Rattle.network.specs.Elements.{el}
use Rattle.sheet.specs.Lines.{WorkedLine, at, flow_duration, walk, travel, thin}
use Rattle.sheet.specs.Sheet.{worked, sheet, first_thin}
use Rattle.sheet.specs.Laws.{Near, FlowDurationsNear, TravelsNear}
use Rattle.sheet.proofs.Indexed.{indexed}
use Rattle.sheet.proofs.SourceLines.{is_door}
use Rattle.sheet.proofs.Stages.{length_worked}
use Rattle.sheet.proofs.LineLaws.{Swift, swift_at, flows_enclose, flows_near}

-- u = ceil (n / lo), q = floor (n / hi), over what is known of them; lo is m at least
far : (n lo hi g m t q : ℕ) → hi ≤ lo + g → m ≤ lo → (q + 2 + t) * lo < n + lo → n < q * hi + hi → m * t ≤ g * q + g
far n lo hi g m t q h l up low = omega (arith, mul-le-mul_left (q + 1) h, mul-le-mul_left t l)

apart : (n lo hi g m u q : ℕ) → hi ≤ lo + g → m ≤ lo → g ≤ m → u * lo < n + lo → n < q * hi + hi → m * u ≤ m * q + g * q + 3 * m
apart n lo hi g m u q h l s up low = ⊎_elim
    (λ (near : u < q + 2). omega (arith, mul-le-mul_left m near))
    (λ (more : q + 2 ≤ u).
    let e : u ≡ q + 2 + (u - q - 2) = omega arith in
    rw e (omega (arith, far n lo hi g m (u - q - 2) q h l (rw e at up) low)))
    (cases_lt u (q + 2))

duration_near : (k g m : ℕ) (w : Worked) → 0 < m → m ≤ w.lower → w.lower ≤ w.upper → gap w ≤ g → g ≤ m → m * (falling (over k) w).upper ≤ m * (falling (over k) w).lower + g * (falling (over k) w).lower + 3 * m
duration_near k g m w z l o d s =
    apart (k * 1) w.lower w.upper g m ((k * 1 + (w.lower - 1)) / w.lower) (k * 1 / w.upper) (omega arith) l s
    (omega (arith, div-mul-le_self (k * 1 + (w.lower - 1)) w.lower))
    (lt-div-mul-add {a = k * 1} (omega arith))

-- at flows of 10^7 at least
pub flow_duration_near : (k e : ℕ) (w : Worked) → e ≤ 128 → 10000000 ≤ w.lower → w.lower ≤ w.upper → gap w ≤ 31 * e → Near e (falling (over k) w)
flow_duration_near k e w f l o d = omega (arith, duration_near k (31 * e) 10000000 w (omega arith) l o d (omega arith))

-- at speeds of 10^8 at least
pub travel_duration_near : (k e : ℕ) (w : Worked) → e ≤ 128 → 100000000 ≤ w.lower → w.lower ≤ w.upper → gap w ≤ 62 * e → Near e (falling (over k) w)
travel_duration_near k e w f l o d = omega (arith, duration_near k (62 * e) 100000000 w (omega arith) l o d (omega arith))

-- where no line is thin, each with persons has a flow of 10^7
thin_no : (l : WorkedLine) → thin l ≡ false → 0 < l.persons → 10000000 ≤ l.flow.lower
thin_no l h s = elim (cases_lt l.flow.lower 10000000) [
  | inl low ↦ absurd (true≢false (sym (and_from _ _ (lt-ltb _ _ s) (lt-ltb _ _ low)) ∙ h))
  | inr high ↦ high
]

first_parts : (x : WorkedLine) (ls : List WorkedLine) (k : ℕ) → first_thin (x ∷ ls) k ≡ 0 → (thin x ≡ false) × (first_thin ls (suc k) ≡ 0)
first_parts x ls k h = elim (cases_Bool (thin x)) [
  | inl yes' ↦ let z = sym (cond-true (thin x) (suc k) (first_thin ls (suc k)) yes') ∙ h in absurd (omega arith)
  | inr no' ↦ (no', sym (cond-false (thin x) (suc k) (first_thin ls (suc k)) no') ∙ h)
]

pub none_thin : (ls : List WorkedLine) (k : ℕ) → first_thin ls k ≡ 0 → (i : ℕ) → i < length ls → 0 < (at ls i).persons → 10000000 ≤ (at ls i).flow.lower
none_thin [] k h i l s = absurd (omega arith)
none_thin (x ∷ ls) k h zero l s = thin_no x (first_parts x ls k h).0 s
none_thin (x ∷ ls) k h (suc i) l s = none_thin ls (suc k) (first_parts x ls k h).1 i (omega arith) s

abbrev Timed : ℕ → Worked → Type 0
Timed e d = Encloses d × Near e d

module _ (e : ℕ) (few : e ≤ 128) where
  -- the flow duration of a line with persons
  flow_timed : (l : WorkedLine) → 0 < l.persons → 10000000 ≤ l.flow.lower → Encloses l.flow → gap l.flow ≤ 31 * e → Timed e (flow_duration l)
  flow_timed l s big h g =
      let k = l.persons * 10 ^ 15 in
      subst (Timed e) (sym (cond-false (eqb l.persons 0) (exactly 0) (falling (over k) l.flow) (ne_eqb _ _ (λ z. omega arith))))
      (over_encloses k l.flow (omega arith) h, flow_duration_near k e l.flow few big (ends_in_order l.flow h) g)

  fast_timed : (k : Kind) (len : ℕ) (v : Worked) → Swift k e v → (k ≡ Door → ⊥) → Timed e (falling (over (len * 10 ^ 12)) v)
  fast_timed k len v s d =
      let f = s.fast d in
      (over_encloses (len * 10 ^ 12) v (omega (arith, f.least)) f.encloses, travel_duration_near (len * 10 ^ 12) e v few f.least (ends_in_order v f.encloses) f.near)

  walk_timed : (k : Kind) (len : ℕ) (v : Worked) → Swift k e v → Timed e (walk k len v)
  walk_timed Corridor len v s = fast_timed Corridor len v s (λ d. true≢false (sym (ap is_door d)))
  walk_timed Door len v s = (exactly_encloses 0, omega arith)
  walk_timed StairDown len v s = fast_timed StairDown len v s (λ d. true≢false (sym (ap is_door d)))
  walk_timed StairUp len v s = fast_timed StairUp len v s (λ d. true≢false (sym (ap is_door d)))

  travel_timed : (x : Element) (l : WorkedLine) → 0 < l.persons → Swift x.kind e l.speed → Timed e (travel x l)
  travel_timed x l s f =
      subst (Timed e) (sym (cond-false (eqb l.persons 0) (exactly 0) (walk x.kind x.length l.speed) (ne_eqb _ _ (λ z. omega arith))))
      (walk_timed x.kind x.length l.speed f)

pub flow_durations_near : FlowDurationsNear
unfolding sheet
flow_durations_near t es lawful ready none i c =
    let from = (indexed ready).starts i c.0 in
    flow_timed (length es) ready.few (at (worked t es 64) i) c.1
    (none_thin (worked t es 64) 0 none i (omega (arith, c.0, length_worked t es 64)) c.1)
    (flows_enclose t es lawful ready 64 i c.0 from)
    (flows_near t es lawful ready 64 i c.0 from)

pub travels_near : TravelsNear
unfolding sheet
travels_near t es lawful ready none i c = travel_timed (length es) ready.few (el es i) (at (worked t es 64) i) c.1 (swift_at t lawful es (indexed ready) 64 i c.0 ((indexed ready).starts i c.0))
