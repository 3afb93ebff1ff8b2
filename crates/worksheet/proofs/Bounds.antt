-- What keeps the numbers at a point small.
use Rattle.std.proofs.Common.{◌≡◌, ℕ, zero, suc, ◌+◌, ◌-◌, ◌<◌, ◌≤◌, List, length, ap, ◌∙◌, subst, inl, inr, arith}
use Rattle.std.proofs.lemmas.Bool.{cases_lt}
use Rattle.exact.proofs.Rounding.{ends_in_order}
use Rattle.walking.specs.Curves.{Tables}
use Rattle.walking.specs.Laws.{Lawful}
use Rattle.network.specs.declared.Element.{Element}
use Rattle.network.specs.Elements.{el, comes, aboard}
use Rattle.network.specs.Ready.{Ready}
use Rattle.sheet.specs.declared.Line.{Line}
use Rattle.sheet.specs.Lines.{WorkedLine, idle, at}
use Rattle.sheet.specs.Points.{persons_in}
use Rattle.sheet.specs.Sheet.{worked}
use Rattle.sheet.proofs.Stages.{at_none, at_stay}
use Rattle.sheet.proofs.Crowds.{persons_bounded, arrivals_bounded}
use Rattle.sheet.proofs.LineLaws.{flows_enclose, flows_in_range}
use Rattle.flows.specs.declared.Arrivals.{Arrivals}
use Rattle.flows.specs.Points.{line_at, line_lower, line_upper, line_persons, arrivals_at, SmallLine, SmallLines}
use Rattle.flows.proofs.PointSums.{where_small}
use Rattle.worksheet.specs.Stages.{Holds}
use Rattle.worksheet.proofs.Departing.{arrivals_persons}

module _ (t : Tables) (es : List Element) (lawful : Lawful t) (ready : Ready es) where
  -- an element whose point is still to come
  unworked : (q i : ℕ) → i < length es → q < (el es i).from → at (worked t es q) i ≡ idle
  unworked zero i l h = at_none t es i l (λ e. omega arith)
  unworked (suc q) i l h = at_stay t es q i (λ e. omega arith) ∙ unworked q i l (omega arith)

  lower_small : (q i : ℕ) → i < length es → (at (worked t es q) i).flow.lower ≤ 20000000000
  lower_small q i l = elim (cases_lt q (el es i).from) [
    | inl ahead ↦ omega (arith, ap (λ (w : WorkedLine). w.flow.lower) (unworked q i l ahead))
    | inr done ↦ omega (arith, ends_in_order (at (worked t es q) i).flow (flows_enclose t es lawful ready q i l done), flows_in_range t es lawful ready q i)
  ]

  pub small_lines : (q : ℕ) (ls : List Line) → q ≤ 64 → Holds es (worked t es q) ls → SmallLines es ls
  small_lines q ls few h = record { few = ready.few; room = h.room; small = λ i l. small i l }
    where
      small : (i : ℕ) → i < length es → SmallLine (line_at ls i)
      small i l = record {
        lower = omega (arith, ap line_lower (h.lines i l), lower_small q i l);
        upper = omega (arith, ap line_upper (h.lines i l), flows_in_range t es lawful ready q i);
        persons = omega (arith, ap line_persons (h.lines i l), persons_bounded t es ready q i few, ready.aboard_most);
      }

-- what comes to a point, as the code has it
module _ (es : List Element) (ls : List Line) (p : ℕ) (a : Arrivals) (is : a ≡ arrivals_at es ls p) where
  module _ (small : SmallLines es ls) where
    pub arrivals_lower : a.flow.lower ≤ 2560000000000
    unfolding arrivals_at
    arrivals_lower =
        omega (arith, ap (λ (r : Arrivals). r.flow.lower) is, where_small (comes es p) (λ i. line_lower (line_at ls i)) 20000000000 128 (length es) (λ i l _. (small.small i l).lower) small.few)

    pub arrivals_upper : a.flow.upper ≤ 2560000000000
    unfolding arrivals_at
    arrivals_upper =
        omega (arith, ap (λ (r : Arrivals). r.flow.upper) is, where_small (comes es p) (λ i. line_upper (line_at ls i)) 20000000000 128 (length es) (λ i l _. (small.small i l).upper) small.few)

  -- nobody is counted twice
  pub arrivals_few : (t : Tables) → Ready es → 1 ≤ p → p ≤ 64 → Holds es (worked t es (p - 1)) ls → a.persons ≤ 8000
  arrivals_few t ready one few h =
      let ws = worked t es (p - 1) in
      let here : (p - 1) + 1 ≡ p = omega arith in
      let all = subst (λ m. persons_in es ws m ≤ aboard es) here (arrivals_bounded t es ready (p - 1) (omega arith)) in
      omega (arith, ap (λ (r : Arrivals). r.persons) is, arrivals_persons es ws ls p h, ready.aboard_most)
