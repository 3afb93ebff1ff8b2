-- Every worked line lies between its ends, which are near and in range.
use Rattle.std.proofs.Common.{◌≡◌, ℕ, zero, suc, ◌+◌, ◌-◌, ◌*◌, ◌<◌, ◌≤◌, List, length, sym, refl, ap, ◌∙◌, subst, inl, inr, arith}
use native.Mathlib.Nat.{min-le_right}
use Rattle.std.proofs.lemmas.Bool.{cases_lt, cases_eq}
use Rattle.exact.specs.Worked.{Worked, Encloses, gap}
use Rattle.exact.proofs.Rounding.{exactly_encloses}
use Rattle.walking.specs.Curves.{Curve, Tables, curve_of}
use Rattle.walking.specs.Laws.{Lawful, FlowLaw, FlowRow}
use Rattle.walking.proofs.Rows.{each_at}
use Rattle.curves.specs.Reading.{mega, read_falling}
use Rattle.curves.proofs.Readings.{falling_curve_encloses, speeds_in_range}
use Rattle.network.specs.declared.Kind.{Kind}
use Rattle.network.specs.declared.Kind.TheVariants.{Corridor, Door, StairDown, StairUp}
use Rattle.network.specs.declared.Element.{Element}
use Rattle.network.specs.Elements.{el}
use Rattle.margin.specs.Network.{Sources, flows}
use Rattle.margin.specs.Network.{cut as net_cut}
use Rattle.margin.proofs.Enclosing.{flows_hold, points_hold}
use Rattle.margin.proofs.Widening.{cut_gap}
use Rattle.margin.proofs.Flight.{flows_near as net_flows_near, specific_near}
use Rattle.sheet.specs.Lines.{at, WorkedLine}
use Rattle.sheet.specs.Sources.{source}
use Rattle.sheet.specs.Shares.{share}
use Rattle.sheet.specs.Points.{persons_in, specific_flow_in, last_entry, most, cut, speed_at, leaving}
use Rattle.sheet.specs.Sheet.{worked}
use Rattle.sheet.specs.Laws.{FlowsEnclose, FlowsNear, SpeedsEnclose, SpeedsNear, SpeedsInRange, FlowsInRange}
use Rattle.sheet.proofs.Indexed.{Indexed, indexed}
use Rattle.sheet.proofs.SourceLines.{Fast, Good, source_good, through_small}
use Rattle.sheet.proofs.Stages.{net, net_sound, at_start, at_none, at_leave, at_stay, settled, past, flow_at, leave_cut, same_flow, same_flows}

-- a speed of an element of a kind
pub record Swift (k : Kind) (e : ℕ) (v : Worked) : Type 0 where
  pub encloses : Encloses v
  pub near : gap v ≤ 62 * e
  pub fast : (k ≡ Door → ⊥) → Fast e v

swift_fast : (k : Kind) (e : ℕ) (v : Worked) → Fast e v → Swift k e v
swift_fast k e v f = record { encloses = f.encloses; near = f.near; fast = λ _. f }

last_small : (c : Curve) → FlowLaw c → last_entry c * mega ≤ 2000000000
last_small c l = omega (arith, (each_at FlowRow c l.rows (length c - 1) (omega (arith, l.few.0))).ends)

module _ (t : Tables) (lawful : Lawful t) where
  -- curve n, 2 at least, at a specific flow whose ends are near
  reads_fast : (n : ℕ) → 2 ≤ n → (e : ℕ) (s : Worked) → Encloses s → gap s + 60 ≤ 62 * e → Fast e (read_falling (curve_of t n) s)
  reads_fast n two e s h g =
      let f = falling_curve_encloses t lawful n two s h in
      record { encloses = f.0; least = (speeds_in_range t lawful n s.upper).0; most = (speeds_in_range t lawful n s.lower).1; near = omega (arith, f.1) }

  swift : (k : Kind) (e : ℕ) (s : Worked) → Encloses s → gap s + 60 ≤ 62 * e → Swift k e (speed_at t k s)
  swift Corridor e s h g = swift_fast Corridor e _ (reads_fast 2 (omega arith) e s h g)
  swift Door e s h g = record { encloses = exactly_encloses 0; near = omega arith; fast = λ d. absurd (d refl) }
  swift StairDown e s h g = swift_fast StairDown e _ (reads_fast 3 (omega arith) e s h g)
  swift StairUp e s h g = swift_fast StairUp e _ (reads_fast 4 (omega arith) e s h g)

  -- no cut is above two persons per metre and second
  pub most_small : (k : Kind) → most t k ≤ 2000000000
  most_small Corridor = last_small t.corridor lawful.corridor
  most_small Door = omega (arith, lawful.door.1)
  most_small StairDown = last_small t.down lawful.down
  most_small StairUp = last_small t.up lawful.up

  module _ (es : List Element) (ready : Indexed es) where
    good : (i : ℕ) → i < length es → Good (el es i) (source t (el es i))
    good i l = source_good t lawful (el es i) (ready.thin i l) (λ d. record { persons = ready.crowd i l; width = (ready.wide i l, ready.thin i l); length = ready.long i l d })

    good_start : (i : ℕ) → i < length es → (el es i).from ≡ 0 → Good (el es i) (at (worked t es 0) i)
    good_start i l e = subst (Good (el es i)) (sym (at_start t es i l e)) (good i l)

    sources : Sources (net t es) (flow_at t es 0)
    sources = record {
      holds = λ i l e. (good_start i l e).flow_encloses;
      near = λ i l e. (good_start i l e).flow_near;
    }

    flow_encloses : (p i : ℕ) → i < length es → (el es i).from ≤ p → Encloses (flow_at t es p i)
    flow_encloses p i l f = subst Encloses (sym (same_flow t es p i)) (flows_hold (net t es) (flow_at t es 0) (net_sound t es ready) sources p i l f)

    flow_gap : (p i : ℕ) → i < length es → (el es i).from ≤ p → gap (flow_at t es p i) ≤ 31 * length es
    flow_gap p i l f = subst (λ w. gap w ≤ 31 * length es) (sym (same_flow t es p i)) (net_flows_near (net t es) (flow_at t es 0) (net_sound t es ready) sources p i l f)

    -- the specific flow that an element takes
    cut_near : (p i : ℕ) → i < length es → (el es i).from ≡ suc p → Encloses (cut (most t (el es i).kind) (specific_flow_in es (worked t es p) (suc p))) × (gap (cut (most t (el es i).kind) (specific_flow_in es (worked t es p) (suc p))) + 60 ≤ 62 * length es)
    cut_near p i l e =
        let n = net t es in
        let w = flow_at t es 0 in
        let s = net_sound t es ready in
        let c = (points_hold n w s sources p i l e).2 in
        let g = cut_gap n (flows n w p) (suc p) i in
        let h = specific_near n w s sources p i l e in
        let near : gap (net_cut n (flows n w p) (suc p) i) + 60 ≤ 62 * length es = omega arith in
        subst (λ v. Encloses v × (gap v + 60 ≤ 62 * length es)) (sym (leave_cut t es (worked t es p) (suc p) i ∙ ap (λ f. net_cut n f (suc p) i) (same_flows t es p))) (c, near)

    swift_first : (q i : ℕ) → i < length es → (el es i).from ≡ q → Swift (el es i).kind (length es) (at (worked t es q) i).speed
    swift_first zero i l e =
        let g = good_start i l e in
        let ok : ((el es i).kind ≡ Door → ⊥) → Fast (length es) (at (worked t es 0) i).speed = λ d. let f = g.fast d in record { encloses = f.encloses; least = f.least; most = f.most; near = omega (arith, f.near) } in
        record { encloses = g.speed_encloses; near = omega (arith, g.speed_near); fast = ok }
    swift_first (suc p) i l e =
        let c = cut_near p i l e in
        subst (λ (x : WorkedLine). Swift (el es i).kind (length es) x.speed) (sym (at_leave t es p i l e)) (unfold leaving in swift (el es i).kind (length es) (cut (most t (el es i).kind) (specific_flow_in es (worked t es p) (suc p))) c.0 c.1)

    pub swift_at : (p i : ℕ) → i < length es → (el es i).from ≤ p → Swift (el es i).kind (length es) (at (worked t es p) i).speed
    swift_at p i l f = subst (λ (x : WorkedLine). Swift (el es i).kind (length es) x.speed) (sym (settled t es (el es i).from p i (omega arith) f)) (swift_first (el es i).from i l refl)

    -- flows in range
    leaving_small : (i : ℕ) → i < length es → (s : Worked) (n : ℕ) → (leaving t (el es i) s n).flow.upper ≤ 20000000000
    unfolding leaving
    leaving_small i l s n = through_small (el es i).width (cut (most t (el es i).kind) s) (ready.thin i l) (omega (arith, most_small (el es i).kind, min-le_right s.upper (most t (el es i).kind * 1)))

    abbrev SmallFlow : WorkedLine → Type 0
    SmallFlow x = x.flow.upper ≤ 20000000000

    small_at : (p i : ℕ) → i < length es → SmallFlow (at (worked t es p) i)
    small_at zero i l = elim (cases_eq (el es i).from 0) [
      | inl e ↦ (good_start i l e).flow_small
      | inr ne ↦ subst SmallFlow (sym (at_none t es i l ne)) (omega arith)
    ]
    small_at (suc p) i l = elim (cases_eq (el es i).from (suc p)) [
      | inl e ↦ subst SmallFlow (sym (at_leave t es p i l e)) (leaving_small i l (specific_flow_in es (worked t es p) (suc p)) (share es (suc p) (persons_in es (worked t es p) (suc p)) i))
      | inr ne ↦ subst SmallFlow (sym (at_stay t es p i ne)) (small_at p i l)
    ]

pub flows_enclose : FlowsEnclose
flows_enclose t es lawful ready p i l f = flow_encloses t lawful es (indexed ready) p i l f

pub flows_near : FlowsNear
flows_near t es lawful ready p i l f = flow_gap t lawful es (indexed ready) p i l f

pub speeds_enclose : SpeedsEnclose
speeds_enclose t es lawful ready p i l f = (swift_at t lawful es (indexed ready) p i l f).encloses

pub speeds_near : SpeedsNear
speeds_near t es lawful ready p i l f = (swift_at t lawful es (indexed ready) p i l f).near

pub sheet_speeds_in_range : SpeedsInRange
sheet_speeds_in_range t es lawful ready p i l f d = let s = (swift_at t lawful es (indexed ready) p i l f).fast d in (s.least, s.most)

pub flows_in_range : FlowsInRange
flows_in_range t es lawful ready p i = elim (cases_lt i (length es)) [
  | inl l ↦ small_at t lawful es (indexed ready) p i l
  | inr l ↦ subst (λ (x : WorkedLine). x.flow.upper ≤ 20000000000) (sym (past t es p i l)) (omega arith)
]
