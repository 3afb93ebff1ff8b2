-- The lines once a point is worked, from those before.
use Rattle.std.proofs.Common.{◌≡◌, ℕ, suc, ◌-◌, ◌<◌, ◌≤◌, List, length, sym, ap, ◌∙◌, subst, inl, inr, arith}
use Rattle.std.proofs.lemmas.Bool.{cases_eq, eq-eqb, ne_eqb, cond-true, cond-false}
use Rattle.exact.specs.declared.Ends.{Ends}
use Rattle.exact.specs.Fractions.{Fraction, scaled}
use Rattle.exact.specs.Worked.{ends, around, rising}
use Rattle.exact.proofs.SumLaws.{where_same}
use Rattle.walking.specs.Curves.{Tables}
use Rattle.network.specs.declared.Element.{Element}
use Rattle.network.specs.Elements.{el, comes, leaves}
use Rattle.network.specs.Ready.{Ready}
use Rattle.network.proofs.Readiness.{lawful_at}
use Rattle.sheet.specs.declared.Line.{Line}
use Rattle.sheet.specs.Lines.{WorkedLine, at, shown, no_line}
use Rattle.sheet.specs.Shares.{width_out, share}
use Rattle.sheet.specs.Points.{persons_in, flows_in, specific_flow_in, leaving}
use Rattle.sheet.specs.Sheet.{worked}
use Rattle.sheet.proofs.Stages.{at_leave, at_stay}
use Rattle.sheet.proofs.ShareLaws.{wide_le}
use Rattle.flows.specs.declared.Arrivals.{Arrivals}
use Rattle.flows.specs.Points.{line_at, line_lower, line_upper, line_persons, arrivals_at}
use Rattle.worksheet.specs.Stages.{Holds, shown_at, laid, held, departed}
use Rattle.worksheet.proofs.Laid.{laid_none, laid_same}

-- what comes to a point, by the worked lines that a slice holds
module _ (es : List Element) (ws : List WorkedLine) (ls : List Line) (p : ℕ) (h : Holds es ws ls) where
  pub arrivals_persons : (arrivals_at es ls p).persons ≡ persons_in es ws p
  unfolding arrivals_at persons_in
  arrivals_persons = where_same (length es) (comes es p) (λ i. line_persons (line_at ls i)) (λ i. (at ws i).persons) (λ i l _. ap line_persons (h.lines i l))

  flow_lower : (arrivals_at es ls p).flow.lower ≡ (flows_in es ws p).lower
  unfolding arrivals_at flows_in
  flow_lower = where_same (length es) (comes es p) (λ i. line_lower (line_at ls i)) (λ i. (at ws i).flow.lower) (λ i l _. ap line_lower (h.lines i l))

  flow_upper : (arrivals_at es ls p).flow.upper ≡ (flows_in es ws p).upper
  unfolding arrivals_at flows_in
  flow_upper = where_same (length es) (comes es p) (λ i. line_upper (line_at ls i)) (λ i. (at ws i).flow.upper) (λ i l _. ap line_upper (h.lines i l))

  arrivals_flow : (arrivals_at es ls p).flow ≡ ends (flows_in es ws p)
  arrivals_flow = λ j. record { lower = flow_lower j; upper = flow_upper j }

  -- the specific flow in, as the code makes it
  specific_by : (width : ℕ) (a r : Ends) → width ≡ width_out es p → a ≡ (arrivals_at es ls p).flow
      → ((x : Fraction) → r ≡ ends (rising (scaled 1000 width) (around a x))) → r ≡ ends (specific_flow_in es ws p)
  unfolding specific_flow_in
  specific_by width a r ew ea h' =
      let x = (flows_in es ws p).exact in
      h' x
      ∙ ap (λ m. ends (rising (scaled 1000 m) (around a x))) ew
      ∙ ap (λ (f : Ends). ends (rising (scaled 1000 (width_out es p)) (around f x))) (ea ∙ arrivals_flow)

-- the point after q
module _ (t : Tables) (es : List Element) (q : ℕ) (ls : List Line) (h : Holds es (worked t es q) ls) where
  abbrev before : List WorkedLine
  before = worked t es q

  abbrev p : ℕ
  p = suc q

  stays : (i : ℕ) → i < length es → ((el es i).from ≡ p → ⊥) → line_at ls i ≡ shown_at es (worked t es p) i
  stays i l f = h.lines i l ∙ ap (shown (el es i)) (sym (at_stay t es q i f))

  departs : (i : ℕ) → i < length es → departed t es p (specific_flow_in es before p) (persons_in es before p) ls i ≡ shown_at es (worked t es p) i
  unfolding departed
  departs i l =
      let new = shown (el es i) (leaving t (el es i) (specific_flow_in es before p) (share es p (persons_in es before p) i)) in
      elim (cases_eq (el es i).from p) [
        | inl f ↦ cond-true (leaves es p i) new (line_at ls i) (eq-eqb _ _ f) ∙ ap (shown (el es i)) (sym (at_leave t es q i l f))
        | inr f ↦ cond-false (leaves es p i) new (line_at ls i) (ne_eqb _ _ f) ∙ stays i l f
      ]

  all_departed : laid (departed t es p (specific_flow_in es before p) (persons_in es before p) ls) (length es) ls ≡ held es (worked t es p) ls
  unfolding held
  all_departed = laid_same no_line _ (shown_at es (worked t es p)) ls (length es) departs

  -- where nothing leaves, every line stays
  none_departs : Ready es → width_out es p ≤ 0 → ls ≡ held es (worked t es p) ls
  unfolding held
  none_departs ready none =
      laid_none no_line (shown_at es (worked t es p)) ls (length es) h.room
      (λ i l. stays i l (λ f. omega (arith, wide_le es p i l f, (lawful_at ready i l).wide)))

-- the same at a point p, from 1 on
module _ (t : Tables) (es : List Element) (p : ℕ) (ls : List Line) (one : 1 ≤ p) (h : Holds es (worked t es (p - 1)) ls) where
  abbrev ws : List WorkedLine
  ws = worked t es (p - 1)

  after : suc (p - 1) ≡ p
  after = omega arith

  pub point_idle : Ready es → width_out es p ≤ 0 → ls ≡ held es (worked t es p) ls
  point_idle ready = subst (λ m. width_out es m ≤ 0 → ls ≡ held es (worked t es m) ls) after (none_departs t es (p - 1) ls h ready)

  point_worked : (r : Ends) (n : ℕ) (xs : List Line) → r ≡ ends (specific_flow_in es ws p) → n ≡ persons_in es ws p
      → ((x : Fraction) → xs ≡ laid (departed t es p (around r x) n ls) (length es) ls) → xs ≡ held es (worked t es p) ls
  point_worked r n xs er en ex =
      let s = specific_flow_in es ws p in
      ex s.exact
      ∙ ap (λ (f : Ends). laid (departed t es p (around f s.exact) n ls) (length es) ls) er
      ∙ ap (λ m. laid (departed t es p s m ls) (length es) ls) en
      ∙ subst (λ m. laid (departed t es m (specific_flow_in es ws m) (persons_in es ws m) ls) (length es) ls ≡ held es (worked t es m) ls) after (all_departed t es (p - 1) ls h)

  -- from what the code's calls promise
  pub point_by : (width : ℕ) (a : Arrivals) (r : Ends) (xs : List Line) → width ≡ width_out es p → a ≡ arrivals_at es ls p
      → ((x : Fraction) → r ≡ ends (rising (scaled 1000 width) (around a.flow x)))
      → ((x : Fraction) → xs ≡ laid (departed t es p (around r x) a.persons ls) (length es) ls)
      → xs ≡ held es (worked t es p) ls
  point_by width a r xs ew ea er ex =
      point_worked r a.persons xs
      (specific_by es ws ls p h width a.flow r ew (ap (λ (b : Arrivals). b.flow) ea) er)
      (ap (λ (b : Arrivals). b.persons) ea ∙ arrivals_persons es ws ls p h)
      ex
