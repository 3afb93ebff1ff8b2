-- The lines, stage after stage, and the network that their flows make.
use Rattle.std.proofs.Common.{◌≡◌, ℕ, zero, suc, ◌<◌, ◌≤◌, cond, List, length, sym, refl, ap, ◌∙◌, inl, inr, arith}
use mathlib.Core.Path.{fun_ext}
use Rattle.std.proofs.lemmas.List.FromFn.{length-map-range_with_len, get_or-map-range_with_len}
use Rattle.std.proofs.lemmas.List.{get_or_past}
use Rattle.std.proofs.lemmas.Bool.{eq-eqb, ne_eqb, cond-true, cond-false, cases_lt, cases_eq}
use Rattle.walking.specs.Curves.{Tables}
use Rattle.exact.specs.Worked.{Worked}
use Rattle.network.specs.declared.Element.{Element}
use Rattle.network.specs.Elements.{no_element, el, leaves}
use Rattle.sheet.specs.Lines.{idle, at, WorkedLine}
use Rattle.sheet.specs.Sources.{source}
use Rattle.sheet.specs.Shares.{width_out, share}
use Rattle.sheet.specs.Points.{persons_in, flows_in, specific_flow_in, most, cut, leaving}
use Rattle.sheet.specs.Sheet.{next, worked}
use Rattle.margin.specs.Network.{Network, Sound, specific, arriving, flow_out, flows}
use Rattle.margin.specs.Network.{cut as net_cut}
use Rattle.margin.specs.Network.{width_out as net_width}
use Rattle.sheet.proofs.Indexed.{Indexed}
use Rattle.margin.proofs.Enclosing.{flows_leave, flows_stay}

abbrev pub net : Tables → List Element → Network
net t es = record { count = length es; width = λ i. (el es i).width; from = λ i. (el es i).from; to = λ i. (el es i).to; cap = λ i. most t (el es i).kind }

pub net_sound : (t : Tables) (es : List Element) → Indexed es → Sound (net t es)
net_sound t es r = record { few = r.few; wide = r.wide; thin = r.thin; onward = r.onward }

module _ (t : Tables) (es : List Element) where
  pub length_worked : (p : ℕ) → length (worked t es p) ≡ length es
  unfolding worked
  length_worked zero = length-map-range_with_len (λ i. cond (leaves es 0 i) (source t (el es i)) idle) 0 (length es)
  length_worked (suc p) = length-map-range_with_len (next t es (suc p) (worked t es p)) 0 (length es)

  pub at_start : (i : ℕ) → i < length es → (el es i).from ≡ 0 → at (worked t es 0) i ≡ source t (el es i)
  unfolding worked
  at_start i l e = get_or-map-range_with_len (λ i. cond (leaves es 0 i) (source t (el es i)) idle) 0 (length es) i i idle l (omega arith) ∙ cond-true _ _ _ (eq-eqb _ _ e)

  pub at_none : (i : ℕ) → i < length es → ((el es i).from ≡ 0 → ⊥) → at (worked t es 0) i ≡ idle
  unfolding worked
  at_none i l e = get_or-map-range_with_len (λ i. cond (leaves es 0 i) (source t (el es i)) idle) 0 (length es) i i idle l (omega arith) ∙ cond-false _ _ _ (ne_eqb _ _ e)

  at_next : (p i : ℕ) → i < length es → at (worked t es (suc p)) i ≡ next t es (suc p) (worked t es p) i
  unfolding worked
  at_next p i l = get_or-map-range_with_len (next t es (suc p) (worked t es p)) 0 (length es) i i idle l (omega arith)

  pub past : (p i : ℕ) → length es ≤ i → at (worked t es p) i ≡ idle
  past p i l = get_or_past (worked t es p) i idle (omega (arith, length_worked p))

  pub from_past : (i : ℕ) → length es ≤ i → (el es i).from ≡ 0
  from_past i l = ap (λ (x : Element). x.from) (get_or_past es i no_element l)

  -- what an element that leaves the point is given
  pub at_leave : (p i : ℕ) → i < length es → (el es i).from ≡ suc p → at (worked t es (suc p)) i ≡ leaving t (el es i) (specific_flow_in es (worked t es p) (suc p)) (share es (suc p) (persons_in es (worked t es p) (suc p)) i)
  at_leave p i l e = at_next p i l ∙ cond-true _ _ _ (eq-eqb _ _ e)

  -- all else stays
  pub at_stay : (p i : ℕ) → ((el es i).from ≡ suc p → ⊥) → at (worked t es (suc p)) i ≡ at (worked t es p) i
  at_stay p i e = elim (cases_lt i (length es)) [
    | inl l ↦ at_next p i l ∙ cond-false _ _ _ (ne_eqb _ _ e)
    | inr l ↦ past (suc p) i l ∙ sym (past p i l)
  ]

  pub settled : (q p i : ℕ) → (el es i).from ≤ q → q ≤ p → at (worked t es p) i ≡ at (worked t es q) i
  settled q zero i f l = ap (λ k. at (worked t es k) i) (omega arith)
  settled q (suc p) i f l = elim (cases_eq q (suc p)) [
    | inl e ↦ ap (λ k. at (worked t es k) i) (sym e)
    | inr ne ↦ at_stay p i (λ e. omega arith) ∙ settled q p i f (omega arith)
  ]

  abbrev pub flow_at : ℕ → ℕ → Worked
  flow_at p i = (at (worked t es p) i).flow

  leave_flow : (ls : List WorkedLine) (q m i : ℕ) → (leaving t (el es i) (specific_flow_in es ls q) m).flow ≡ flow_out (net t es) (λ j. (at ls j).flow) q i
  unfolding leaving specific_flow_in flows_in width_out flow_out net_cut specific arriving net_width
  leave_flow ls q m i = refl

  pub leave_cut : (ls : List WorkedLine) (q i : ℕ) → cut (most t (el es i).kind) (specific_flow_in es ls q) ≡ net_cut (net t es) (λ j. (at ls j).flow) q i
  unfolding specific_flow_in flows_in width_out net_cut specific arriving net_width
  leave_cut ls q i = refl

  -- the flows are those of the network
  pub same_flow : (p i : ℕ) → flow_at p i ≡ flows (net t es) (flow_at 0) p i
  same_flow zero i = unfold flows in refl
  same_flow (suc p) i = elim (cases_eq (el es i).from (suc p)) [
    | inl e ↦ elim (cases_lt i (length es)) [
      | inl l ↦
          ap (λ (x : WorkedLine). x.flow) (at_leave p i l e)
          ∙ leave_flow (worked t es p) (suc p) (share es (suc p) (persons_in es (worked t es p) (suc p)) i) i
          ∙ ap (λ f. flow_out (net t es) f (suc p) i) (fun_ext (same_flow p))
          ∙ sym (flows_leave (net t es) (flow_at 0) p i e)
      | inr l ↦ absurd (omega (arith, from_past i l))
    ]
    | inr ne ↦ ap (λ (x : WorkedLine). x.flow) (at_stay p i ne) ∙ same_flow p i ∙ sym (flows_stay (net t es) (flow_at 0) p i ne)
  ]

  pub same_flows : (p : ℕ) → flow_at p ≡ flows (net t es) (flow_at 0) p
  same_flows p = fun_ext (same_flow p)
