-- The persons, point after point.
use Rattle.std.proofs.Common.{◌≡◌, ℕ, zero, suc, ◌+◌, ◌-◌, ◌<◌, ◌≤◌, Bool, true, false, cond, ◌&&◌, ◌||◌, eqb, ltb, leb, ◌⊎◌, List, length, sym, refl, ap, ◌∙◌, subst, inl, inr, true≢false, arith}
use Rattle.std.proofs.lemmas.Bool.{cases_lt, cases_eq, eqb-true, eqb-false, eq-eqb, cond_both, or_cases, or_left, or_right}
use Rattle.std.proofs.lemmas.Bool.Decides.{nat_tests}
use Rattle.exact.specs.Sums.{sum_below, sum_where}
use Rattle.walking.specs.Curves.{Tables}
use Rattle.network.specs.declared.Kind.{Kind}
use Rattle.network.specs.declared.Kind.TheVariants.{Corridor, Door}
use Rattle.network.specs.declared.Element.{Element}
use Rattle.network.specs.Elements.{el, comes, leaves, aboard, any_below}
use Rattle.sheet.specs.Lines.{at, WorkedLine}
use Rattle.sheet.specs.Sources.{empty_source, full_source, source}
use Rattle.sheet.specs.Shares.{width_out, share}
use Rattle.sheet.specs.Points.{persons_in, leaving}
use Rattle.sheet.specs.Sheet.{worked, sheet}
use Rattle.sheet.specs.Laws.{SharesAddUp, OutIsIn, EveryoneArrives, PersonsBounded, ArrivalsBounded, GoesOn, CameOn, SomeCross}
use Rattle.exact.proofs.SumLaws.{sum_same, sum_mono, sum_plus, where_zero, where_same, where_term}
use Rattle.sheet.proofs.ShareLaws.{wide_le, shares_all, share_le}
use Rattle.sheet.proofs.Indexed.{Indexed, indexed}
use Rattle.sheet.proofs.Stages.{at_start, at_none, at_leave, at_stay, settled, past, from_past}

pub shares_add_up : SharesAddUp
shares_add_up es p n some = shares_all es p n some

-- a sum above 0 has a term above 0
pub some_term : (k : ℕ) (f : ℕ → ℕ) → 0 < sum_below k f → (i : ℕ) × (i < k) × (0 < f i)
unfolding sum_below
some_term zero f h = absurd (omega arith)
some_term (suc k) f h = elim (cases_lt 0 (f k)) [
  | inl z ↦ (k, omega arith, z)
  | inr z ↦ let r = some_term k f (omega arith) in (r.0, omega (arith, r.1), r.2)
]

passed : (b : Bool) (x : ℕ) → 0 < cond b x 0 → (b ≡ true) × (0 < x)
passed true x h = (refl, h)
passed false x h = absurd (omega arith)

pub some_where : (k : ℕ) (t : ℕ → Bool) (f : ℕ → ℕ) → 0 < sum_where k t f → (i : ℕ) × (i < k) × (t i ≡ true) × (0 < f i)
some_where k t f h =
    let r = some_term k (λ i. cond (t i) (f i) 0) h in
    let q = passed (t r.0) (f r.0) r.2 in
    (r.0, r.1, q.0, q.1)

-- what passes a test
any_is : (k : ℕ) (t : ℕ → Bool) (i : ℕ) → i < k → t i ≡ true → any_below k t ≡ true
any_is zero t i l h = absurd (omega arith)
any_is (suc k) t i l h = elim (cases_eq i k) [
  | inl e ↦ or_right (any_below k t) (t k) (subst (λ j. t j ≡ true) e h)
  | inr ne ↦ or_left (any_below k t) (t k) (any_is k t i (omega arith) h)
]

any_has : (k : ℕ) (t : ℕ → Bool) → any_below k t ≡ true → (i : ℕ) × (i < k) × (t i ≡ true)
any_has zero t h = absurd (true≢false (sym h))
any_has (suc k) t h = elim (or_cases (any_below k t) (t k) h) [
  | inl e ↦ let r = any_has k t e in (r.0, omega (arith, r.1), r.2)
  | inr e ↦ (k, omega arith, e)
]

-- the persons of a source
full_persons : (t : Tables) (e : Element) (k : Kind) → (k ≡ Corridor) ⊎ (k ≡ Door) → (full_source t k e).persons ≡ e.persons
full_persons t e k (inl h) = ap (λ q. (full_source t q e).persons) h
full_persons t e k (inr h) = ap (λ q. (full_source t q e).persons) h

source_persons : (t : Tables) (e : Element) → (0 < e.persons → (e.kind ≡ Corridor) ⊎ (e.kind ≡ Door)) → (source t e).persons ≡ e.persons
unfolding source
source_persons t e h =
    cond_both (eqb e.persons 0) (empty_source t e) (full_source t e.kind e) (λ (l : WorkedLine). l.persons ≡ e.persons)
    (λ z. sym (eqb-true _ _ z))
    (λ z. full_persons t e e.kind (h (some z)))
  where
    some : eqb e.persons 0 ≡ false → 0 < e.persons
    some z = elim (cases_lt 0 e.persons) [ inl s ↦ s | inr n ↦ absurd (eqb-false _ _ z (omega arith)) ]

-- under way after the points up to p, and past p
abbrev under_way : List Element → ℕ → ℕ → Bool
under_way es p i = leb (el es i).from p && (eqb (el es i).to 0 || ltb p (el es i).to)

abbrev stays : List Element → ℕ → ℕ → Bool
stays es p i = ltb (el es i).from p && (eqb (el es i).to 0 || ltb p (el es i).to)

number_before : (from to p x : ℕ) → (to ≡ 0) ⊎ (from < to) → cond (eqb to (suc p)) x 0 + cond (ltb from (suc p) && (eqb to 0 || ltb (suc p) to)) x 0 ≡ cond (leb from p && (eqb to 0 || ltb p to)) x 0
number_before from to p x h = grind (arith, nat_tests)

number_yes : (from to p x y z : ℕ) → (to ≡ 0) ⊎ (from < to) → from ≡ p → y ≡ z → cond (leb from p && (eqb to 0 || ltb p to)) y 0 ≡ cond (eqb from p) z 0 + cond (ltb from p && (eqb to 0 || ltb p to)) x 0
number_yes from to p x y z o e h = grind (arith, nat_tests)

number_no : (from to p x y z : ℕ) → (from ≡ p → ⊥) → y ≡ x → cond (leb from p && (eqb to 0 || ltb p to)) y 0 ≡ cond (eqb from p) z 0 + cond (ltb from p && (eqb to 0 || ltb p to)) x 0
number_no from to p x y z e h = grind (arith, nat_tests)

number_start : (from to x y : ℕ) → (from ≡ 0 → x ≡ y) → ((from ≡ 0 → ⊥) → y ≡ 0) → cond (leb from 0 && (eqb to 0 || ltb 0 to)) x 0 ≡ y
number_start from to x y h k = grind (arith, nat_tests)

number_end : (from to x : ℕ) → from ≤ 64 → to ≤ 64 → cond (eqb to 0) x 0 ≡ cond (leb from 64 && (eqb to 0 || ltb 64 to)) x 0
number_end from to x a b = grind (arith, nat_tests)

number_way : (from to p : ℕ) → (to ≡ 0) ⊎ (from < to) → from ≡ p → (leb from p && (eqb to 0 || ltb p to)) ≡ true
number_way from to p h e = grind (arith, nat_tests)

number_come : (from to p x : ℕ) → (to ≡ 0) ⊎ (from < to) → cond (eqb to (suc p)) x 0 ≤ cond (leb from p && (eqb to 0 || ltb p to)) x 0
number_come from to p x h = grind (arith, nat_tests)

module _ (t : Tables) (es : List Element) (ready : Indexed es) where
  abbrev persons : ℕ → ℕ → ℕ
  persons p i = (at (worked t es p) i).persons

  abbrev came_to : ℕ → ℕ
  came_to p = persons_in es (worked t es p) (suc p)

  came_sum : (p : ℕ) → came_to p ≡ sum_where (length es) (comes es (suc p)) (persons p)
  unfolding persons_in
  came_sum p = refl

  persons_leave : (p i : ℕ) → i < length es → (el es i).from ≡ suc p → persons (suc p) i ≡ share es (suc p) (came_to p) i
  unfolding leaving
  persons_leave p i l e = ap (λ (x : WorkedLine). x.persons) (at_leave t es p i l e)

  persons_stay : (p i : ℕ) → ((el es i).from ≡ suc p → ⊥) → persons (suc p) i ≡ persons p i
  persons_stay p i e = ap (λ (x : WorkedLine). x.persons) (at_stay t es p i e)

  persons_settled : (q p i : ℕ) → (el es i).from ≤ q → q ≤ p → persons p i ≡ persons q i
  persons_settled q p i f l = ap (λ (x : WorkedLine). x.persons) (settled t es q p i f l)

  persons_start : (i : ℕ) → i < length es → (el es i).from ≡ 0 → persons 0 i ≡ (el es i).persons
  persons_start i l e = ap (λ (x : WorkedLine). x.persons) (at_start t es i l e) ∙ source_persons t (el es i) (λ s. (ready.seated i l s).1)

  width_some : (p i : ℕ) → i < length es → (el es i).from ≡ p → 0 < width_out es p
  width_some p i l e = omega (arith, wide_le es p i l e, ready.wide i l)

  -- where an element comes, there is a way out
  way_out : (p i : ℕ) → suc p ≤ 64 → i < length es → (el es i).to ≡ suc p → 0 < width_out es (suc p)
  way_out p i few l e =
      let a = any_is (length es) (comes es (suc p)) i l (eq-eqb _ _ e) in
      let r = any_has (length es) (leaves es (suc p)) (sym (ready.tied (suc p) (omega arith) few) ∙ a) in
      width_some (suc p) r.0 r.1 (eqb-true _ _ r.2)

  before : (p i : ℕ) → i < length es → (el es i).to ≡ suc p → (el es i).from ≤ p
  before p i l e = elim (ready.onward i l) [ inl z ↦ omega arith | inr z ↦ omega arith ]

  module _ (i : ℕ) (l : i < length es) (some : 0 < persons 64 i) where
    goes_at : (p : ℕ) → (el es i).to ≡ suc p → suc p ≤ 64 → (j : ℕ) × ((j < length es) × (0 < persons 64 j)) × ((el es j).from ≡ (el es i).to)
    goes_at p e few =
        let n = came_to p in
        let here = persons_settled p 64 i (before p i l e) (omega arith) in
        let term = where_term (comes es (suc p)) (persons p) (length es) i l (eq-eqb _ _ e) in
        let sum = shares_all es (suc p) n (way_out p i few l e) in
        let r = some_where (length es) (leaves es (suc p)) (share es (suc p) n) (omega (arith, came_sum p)) in
        let f = eqb-true _ _ r.2 in
        let there = persons_settled (suc p) 64 r.0 (omega arith) few in
        let leave = persons_leave p r.0 r.1 f in
        (r.0, (r.1, omega (arith, r.3)), f ∙ sym e)

    came_at : (p : ℕ) → (el es i).from ≡ suc p → suc p ≤ 64 → (j : ℕ) × ((j < length es) × (0 < persons 64 j)) × ((el es j).to ≡ (el es i).from)
    came_at p e few =
        let n = came_to p in
        let here = persons_settled (suc p) 64 i (omega arith) few in
        let leave = persons_leave p i l e in
        let le = share_le es (suc p) n (width_some (suc p) i l e) i l e in
        let r = some_where (length es) (comes es (suc p)) (persons p) (omega (arith, came_sum p)) in
        let f = eqb-true _ _ r.2 in
        let there = persons_settled p 64 r.0 (before p r.0 r.1 f) (omega arith) in
        (r.0, (r.1, omega (arith, r.3)), f ∙ sym e)

    pub goes_on : 0 < (el es i).to → (j : ℕ) × ((j < length es) × (0 < persons 64 j)) × ((el es j).from ≡ (el es i).to)
    goes_on h = goes_at ((el es i).to - 1) (omega arith) (omega (arith, ready.ends i l))

    pub came_on : 0 < (el es i).from → (j : ℕ) × ((j < length es) × (0 < persons 64 j)) × ((el es j).to ≡ (el es i).from)
    came_on h = came_at ((el es i).from - 1) (omega arith) (omega (arith, ready.starts i l))

  pub some_crossed : (i : ℕ) × ((i < length es) × (0 < persons 64 i))
  some_crossed =
      let r = some_term (length es) (λ i. (el es i).persons) (omega (arith, ready.aboard_some)) in
      let z = (ready.seated r.0 r.1 r.2).0 in
      let s = persons_settled 0 64 r.0 (omega arith) (omega arith) in
      let b = persons_start r.0 r.1 z in
      (r.0, (r.1, omega (arith, r.2)))

  -- what leaves a point is what came to it
  out_is : (p : ℕ) → suc p ≤ 64 → sum_where (length es) (leaves es (suc p)) (share es (suc p) (came_to p)) ≡ came_to p
  out_is p few = elim (cases_lt 0 (width_out es (suc p))) [
    | inl some ↦ shares_all es (suc p) (came_to p) some
    | inr none ↦
        let out = where_zero (length es) (leaves es (suc p)) (share es (suc p) (came_to p)) (λ i l h. omega (arith, width_some (suc p) i l (eqb-true _ _ h))) in
        let in' = where_zero (length es) (comes es (suc p)) (persons p) (λ i l h. omega (arith, way_out p i few l (eqb-true _ _ h))) in
        omega (arith, came_sum p)
  ]

  out_in : (p : ℕ) → suc p ≤ 64 → sum_where (length es) (leaves es (suc p)) (persons 64) ≡ sum_where (length es) (comes es (suc p)) (persons 64)
  out_in p few =
      let a = where_same (length es) (leaves es (suc p)) (persons 64) (share es (suc p) (came_to p)) (λ i l h. let f : (el es i).from ≡ suc p = eqb-true _ _ h in persons_settled (suc p) 64 i (omega arith) few ∙ persons_leave p i l f) in
      let b = where_same (length es) (comes es (suc p)) (persons 64) (persons p) (λ i l h. persons_settled p 64 i (before p i l (eqb-true _ _ h)) (omega arith)) in
      omega (arith, out_is p few, came_sum p)

  crowd : ℕ → ℕ
  crowd p = sum_where (length es) (under_way es p) (persons p)

  after_at : (p i : ℕ) → i < length es → cond (under_way es (suc p) i) (persons (suc p) i) 0 ≡ cond (leaves es (suc p) i) (share es (suc p) (came_to p) i) 0 + cond (stays es (suc p) i) (persons p i) 0
  after_at p i l = elim (cases_eq (el es i).from (suc p)) [
    | inl e ↦ number_yes (el es i).from (el es i).to (suc p) (persons p i) _ _ (ready.onward i l) e (persons_leave p i l e)
    | inr e ↦ number_no (el es i).from (el es i).to (suc p) (persons p i) _ (share es (suc p) (came_to p) i) e (persons_stay p i e)
  ]

  crowd_point : (p : ℕ) → suc p ≤ 64 → crowd (suc p) ≡ crowd p
  unfolding crowd
  crowd_point p few =
      let k = length es in
      let q = suc p in
      let x = persons p in
      let given = share es q (came_to p) in
      let after : crowd q ≡ sum_below k (λ i. cond (leaves es q i) (given i) 0 + cond (stays es q i) (x i) 0) = sum_same k _ _ (λ i l. after_at p i l) in
      let split : sum_below k (λ i. cond (leaves es q i) (given i) 0 + cond (stays es q i) (x i) 0) ≡ sum_where k (leaves es q) given + sum_where k (stays es q) x = sum_plus k (λ i. cond (leaves es q i) (given i) 0) (λ i. cond (stays es q i) (x i) 0) in
      let before' : sum_below k (λ i. cond (comes es q i) (x i) 0 + cond (stays es q i) (x i) 0) ≡ crowd p = sum_same k _ _ (λ i l. number_before (el es i).from (el es i).to p (x i) (ready.onward i l)) in
      let split' : sum_below k (λ i. cond (comes es q i) (x i) 0 + cond (stays es q i) (x i) 0) ≡ sum_where k (comes es q) x + sum_where k (stays es q) x = sum_plus k (λ i. cond (comes es q i) (x i) 0) (λ i. cond (stays es q i) (x i) 0) in
      omega (arith, out_is p few, came_sum p)

  crowd_start : crowd 0 ≡ aboard es
  unfolding crowd
  crowd_start = sum_same (length es) _ _ (λ i l. number_start (el es i).from (el es i).to (persons 0 i) (el es i).persons (persons_start i l) (not_seated i l))
    where
      not_seated : (i : ℕ) → i < length es → ((el es i).from ≡ 0 → ⊥) → (el es i).persons ≡ 0
      not_seated i l h = elim (cases_lt 0 (el es i).persons) [ inl s ↦ absurd (h (ready.seated i l s).0) | inr n ↦ omega arith ]

  crowd_all : (p : ℕ) → p ≤ 64 → crowd p ≡ aboard es
  crowd_all zero few = crowd_start
  crowd_all (suc p) few = crowd_point p few ∙ crowd_all p (omega arith)

  arrives : sum_where (length es) (comes es 0) (persons 64) ≡ aboard es
  unfolding crowd
  arrives = sum_same (length es) _ _ (λ i l. number_end (el es i).from (el es i).to (persons 64 i) (ready.starts i l) (ready.ends i l)) ∙ crowd_all 64 (omega arith)

  -- nowhere are more than aboard

  way_on : (p i : ℕ) → i < length es → (el es i).from ≡ p → under_way es p i ≡ true
  way_on p i l e = number_way (el es i).from (el es i).to p (ready.onward i l) e

  idle_none : (p i : ℕ) → p < (el es i).from → persons p i ≡ 0
  idle_none p i h = elim (cases_lt i (length es)) [
    | inl l ↦ not_yet p (omega arith) ∙ ap (λ (x : WorkedLine). x.persons) (at_none t es i l (λ e. omega arith))
    | inr l ↦ absurd (omega (arith, from_past t es i l))
  ]
    where
      not_yet : (q : ℕ) → q ≤ p → persons q i ≡ persons 0 i
      not_yet zero o = refl
      not_yet (suc q) o = persons_stay q i (λ e. omega arith) ∙ not_yet q (omega arith)

  at_most : (p i : ℕ) → p ≤ 64 → i < length es → persons p i ≤ aboard es
  unfolding crowd
  at_most p i few l = elim (cases_lt p (el es i).from) [
    | inl early ↦ omega (arith, idle_none p i early)
    | inr done ↦
        let q = (el es i).from in
        let s = persons_settled q p i (omega arith) done in
        let c = crowd_all q (omega arith) in
        omega (arith, where_term (under_way es q) (persons q) (length es) i l (way_on q i l refl))
  ]

  came_most : (p : ℕ) → p < 64 → came_to p ≤ aboard es
  unfolding crowd
  came_most p few =
      let c = crowd_all p (omega arith) in
      let m = sum_mono (length es) (λ i. cond (comes es (suc p) i) (persons p i) 0) (λ i. cond (under_way es p i) (persons p i) 0) (λ i l. number_come (el es i).from (el es i).to p (persons p i) (ready.onward i l)) in
      omega (arith, came_sum p)

  pub past_none : (p i : ℕ) → length es ≤ i → persons p i ≡ 0
  past_none p i l = ap (λ (x : WorkedLine). x.persons) (past t es p i l)

pub everyone_arrives : EveryoneArrives
unfolding sheet
everyone_arrives t es ready = arrives t es (indexed ready)

pub out_is_in : OutIsIn
unfolding sheet
out_is_in t es ready p one few =
    subst (λ q. sum_where (length es) (leaves es q) (λ i. (at (worked t es 64) i).persons) ≡ sum_where (length es) (comes es q) (λ i. (at (worked t es 64) i).persons)) (omega arith) (out_in t es (indexed ready) (p - 1) (omega arith))

pub persons_bounded : PersonsBounded
persons_bounded t es ready p i few = elim (cases_lt i (length es)) [
  | inl l ↦ at_most t es (indexed ready) p i few l
  | inr l ↦ omega (arith, past_none t es (indexed ready) p i l)
]

pub arrivals_bounded : ArrivalsBounded
arrivals_bounded t es ready p few = subst (λ q. persons_in es (worked t es p) q ≤ aboard es) (omega arith) (came_most t es (indexed ready) p few)

pub sheet_goes_on : GoesOn
unfolding sheet
sheet_goes_on t es ready i c h = goes_on t es (indexed ready) i c.0 c.1 h

pub sheet_came_on : CameOn
unfolding sheet
sheet_came_on t es ready i c h = came_on t es (indexed ready) i c.0 c.1 h

pub sheet_some_cross : SomeCross
unfolding sheet
sheet_some_cross t es ready = some_crossed t es (indexed ready)
