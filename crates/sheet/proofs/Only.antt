-- The worksheet is what its own equations say, and nothing else is.
use Rattle.std.proofs.Common.{◌≡◌, ℕ, zero, suc, ◌-◌, ◌<◌, ◌≤◌, Bool, true, false, cond, List, [], ◌∷◌, length, sym, refl, ap, ◌∙◌, subst, inl, inr, arith}
use Rattle.std.proofs.lemmas.Bool.{cases_eq, eqb-true}
use Rattle.exact.specs.Fractions.{Fraction, whole, plus, scaled}
use Rattle.exact.specs.Worked.{fractions, rising}
use Rattle.exact.proofs.SumLaws.{where_same}
use Rattle.walking.specs.Curves.{Tables}
use Rattle.network.specs.declared.Element.{Element}
use Rattle.network.specs.Elements.{el, comes}
use Rattle.sheet.specs.Lines.{WorkedLine, at}
use Rattle.sheet.specs.Sources.{source}
use Rattle.sheet.specs.Shares.{width_out, share}
use Rattle.sheet.specs.Points.{persons_in, flows_in, specific_flow_in, leaving}
use Rattle.sheet.specs.Sheet.{worked, sheet}
use Rattle.sheet.specs.Laws.{IsWorksheet, SheetIsWorksheet, OnlyWorksheet}
use Rattle.sheet.proofs.Indexed.{Indexed, indexed}
use Rattle.sheet.proofs.Stages.{length_worked, at_start, at_leave, settled}

-- sums of fractions over terms that are the same
fraction_term : (b : Bool) (x y : Fraction) → (b ≡ true → x ≡ y) → cond b x (whole 0) ≡ cond b y (whole 0)
fraction_term true x y h = h refl
fraction_term false x y h = refl

fractions_same : (k : ℕ) (t : ℕ → Bool) (f g : ℕ → Fraction) → ((i : ℕ) → i < k → t i ≡ true → f i ≡ g i) → fractions k t f ≡ fractions k t g
unfolding fractions
fractions_same zero t f g h = refl
fractions_same (suc k) t f g h =
    ap (λ x. plus x (cond (t k) (f k) (whole 0))) (fractions_same k t f g (λ i l. h i (omega arith)))
    ∙ ap (λ y. plus (fractions k t g) y) (fraction_term (t k) (f k) (g k) (h k (omega arith)))

-- lists that are as long and the same at each index
by_index : (ls ms : List WorkedLine) → length ls ≡ length ms → ((i : ℕ) → i < length ls → at ls i ≡ at ms i) → ls ≡ ms
by_index [] [] e h = refl
by_index [] (m ∷ ms) e h = absurd (omega arith)
by_index (l ∷ ls) [] e h = absurd (omega arith)
by_index (l ∷ ls) (m ∷ ms) e h = let a = h 0 (omega arith) in let b = by_index ls ms (omega arith) (λ i k. h (suc i) (omega arith)) in cc

-- two lists of lines that agree on all that comes to p
abbrev Agree : List Element → ℕ → List WorkedLine → List WorkedLine → Type 0
Agree es p ls ms = (i : ℕ) → i < length es → (el es i).to ≡ p → at ls i ≡ at ms i

module _ (es : List Element) (p : ℕ) (ls ms : List WorkedLine) (agree : Agree es p ls ms) where
  same_at : (i : ℕ) → i < length es → comes es p i ≡ true → at ls i ≡ at ms i
  same_at i l h = agree i l (eqb-true _ _ h)

  same_persons : persons_in es ls p ≡ persons_in es ms p
  unfolding persons_in
  same_persons = where_same (length es) (comes es p) (λ i. (at ls i).persons) (λ i. (at ms i).persons) (λ i l h. ap (λ (x : WorkedLine). x.persons) (same_at i l h))

  same_flows : flows_in es ls p ≡ flows_in es ms p
  unfolding flows_in
  same_flows j = record {
    lower = where_same (length es) (comes es p) (λ i. (at ls i).flow.lower) (λ i. (at ms i).flow.lower) (λ i l h. ap (λ (x : WorkedLine). x.flow.lower) (same_at i l h)) j;
    upper = where_same (length es) (comes es p) (λ i. (at ls i).flow.upper) (λ i. (at ms i).flow.upper) (λ i l h. ap (λ (x : WorkedLine). x.flow.upper) (same_at i l h)) j;
    exact = fractions_same (length es) (comes es p) (λ i. (at ls i).flow.exact) (λ i. (at ms i).flow.exact) (λ i l h. ap (λ (x : WorkedLine). x.flow.exact) (same_at i l h)) j;
  }

  same_specific : specific_flow_in es ls p ≡ specific_flow_in es ms p
  unfolding specific_flow_in
  same_specific = ap (λ w. rising (scaled 1000 (width_out es p)) w) same_flows

  pub same_leaving : (t : Tables) (i : ℕ) → leaving t (el es i) (specific_flow_in es ls p) (share es p (persons_in es ls p) i) ≡ leaving t (el es i) (specific_flow_in es ms p) (share es p (persons_in es ms p) i)
  same_leaving t i = ap (λ s. leaving t (el es i) s (share es p (persons_in es ls p) i)) same_specific ∙ ap (λ n. leaving t (el es i) (specific_flow_in es ms p) (share es p n i)) same_persons

module _ (t : Tables) (es : List Element) (ready : Indexed es) where
  before : (p i : ℕ) → i < length es → (el es i).to ≡ suc p → (el es i).from ≤ p
  before p i l e = elim (ready.onward i l) [ inl z ↦ omega arith | inr z ↦ omega arith ]

  -- what has come to a point stays as it is
  settled_agree : (p : ℕ) → suc p ≤ 64 → Agree es (suc p) (worked t es p) (worked t es 64)
  settled_agree p few i l e = sym (settled t es p 64 i (before p i l e) (omega arith))

  source_at : (i : ℕ) → i < length es → (el es i).from ≡ 0 → at (worked t es 64) i ≡ source t (el es i)
  source_at i l e = settled t es 0 64 i (omega arith) (omega arith) ∙ at_start t es i l e

  leaving_at : (p i : ℕ) → i < length es → (el es i).from ≡ suc p
      → at (worked t es 64) i ≡ leaving t (el es i) (specific_flow_in es (worked t es 64) (suc p)) (share es (suc p) (persons_in es (worked t es 64) (suc p)) i)
  leaving_at p i l e =
      let few : suc p ≤ 64 = omega (arith, ready.starts i l) in
      settled t es (suc p) 64 i (omega arith) few ∙ at_leave t es p i l e ∙ same_leaving es (suc p) (worked t es p) (worked t es 64) (settled_agree p few) t i

  other_at : (i : ℕ) → i < length es → 0 < (el es i).from
      → at (worked t es 64) i ≡ leaving t (el es i) (specific_flow_in es (worked t es 64) (el es i).from) (share es (el es i).from (persons_in es (worked t es 64) (el es i).from) i)
  other_at i l h =
      let e : (el es i).from ≡ suc ((el es i).from - 1) = omega arith in
      subst (λ p. at (worked t es 64) i ≡ leaving t (el es i) (specific_flow_in es (worked t es 64) p) (share es p (persons_in es (worked t es 64) p) i)) (sym e) (leaving_at ((el es i).from - 1) i l e)

  -- another list that keeps the same equations is the same, up to each point
  module _ (ls : List WorkedLine) (is : IsWorksheet t es ls) where
    agrees : (p i : ℕ) → i < length es → (el es i).from ≤ p → at ls i ≡ at (worked t es 64) i
    agrees zero i l o = let e : (el es i).from ≡ 0 = omega arith in is.sources i l e ∙ sym (source_at i l e)
    agrees (suc p) i l o = elim (cases_eq (el es i).from (suc p)) [
      | inl e ↦
          let mine = subst (λ q. at ls i ≡ leaving t (el es i) (specific_flow_in es ls q) (share es q (persons_in es ls q) i)) e (is.others i l (omega arith)) in
          mine ∙ same_leaving es (suc p) ls (worked t es 64) (λ j m f. agrees p j m (before p j m f)) t i ∙ sym (leaving_at p i l e)
      | inr ne ↦ agrees p i l (omega arith)
    ]

    same_list : ls ≡ worked t es 64
    same_list = by_index ls (worked t es 64) (is.size ∙ sym (length_worked t es 64)) (λ i l. agrees 64 i (omega (arith, is.size)) (ready.starts i (omega (arith, is.size))))

pub sheet_is_worksheet : SheetIsWorksheet
unfolding sheet
sheet_is_worksheet t es ready = record { size = length_worked t es 64; sources = source_at t es (indexed ready); others = other_at t es (indexed ready) }

pub only_worksheet : OnlyWorksheet
unfolding sheet
only_worksheet t es ready ls is = same_list t es (indexed ready) ls is
