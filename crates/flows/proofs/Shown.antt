-- What a line shows.
use Rattle.std.proofs.Common.{◌≡◌, ℕ, ◌*◌, ◌^◌, Bool, cond, eqb, ◌⊎◌, sym, ap, ◌∙◌, inl, inr}
use Rattle.std.proofs.lemmas.Bool.{cond-true, cond-false, eq-eqb, ne_eqb}
use Rattle.exact.specs.declared.Ends.{Ends}
use Rattle.exact.specs.Fractions.{Fraction, over}
use Rattle.exact.specs.Worked.{Worked, ends, around, exactly, falling}
use Rattle.walking.specs.Curves.{Tables}
use Rattle.network.specs.declared.Kind.{Kind}
use Rattle.network.specs.declared.Kind.TheVariants.{Corridor, StairDown, StairUp}
use Rattle.network.specs.declared.Element.{Element}
use Rattle.sheet.specs.declared.Line.{Line}
use Rattle.sheet.specs.Lines.{WorkedLine, walk, shown}
use Rattle.sheet.specs.Sources.{empty_source, full_source, source}

-- all kinds but a door have a way to walk
pub walked : (k : Kind) (len : ℕ) (v : Worked) → (k ≡ Corridor) ⊎ ((k ≡ StairDown) ⊎ (k ≡ StairUp)) → falling (over (len * 10 ^ 12)) v ≡ walk k len v
walked k len v (inl e) = ap (λ q. walk q len v) (sym e)
walked k len v (inr (inl e)) = ap (λ q. walk q len v) (sym e)
walked k len v (inr (inr e)) = ap (λ q. walk q len v) (sym e)

-- a time where there are persons
pub with_persons : (n : ℕ) (w : Worked) → (n ≡ 0 → ⊥) → ends w ≡ ends (cond (eqb n 0) (exactly 0) w)
with_persons n w h = ap ends (sym (cond-false (eqb n 0) (exactly 0) w (ne_eqb n 0 h)))

-- the line that a program makes from the ends of a worked one
abbrev pub made_of : ℕ → Bool → Ends → Ends → Fraction → Fraction → WorkedLine
made_of n q f v x y = record { persons = n; queue = q; flow = around f x; speed = around v y }

pub shown_by : (e : Element) (l : WorkedLine) (r : Line) (f v : Ends)
    → ((x y : Fraction) → r ≡ shown e (made_of l.persons l.queue f v x y))
    → f ≡ ends l.flow → v ≡ ends l.speed → r ≡ shown e l
shown_by e l r f v h ef ev =
    let x = l.flow.exact in
    let y = l.speed.exact in
    h x y
    ∙ ap (λ (f' : Ends). shown e (made_of l.persons l.queue f' v x y)) ef
    ∙ ap (λ (v' : Ends). shown e (made_of l.persons l.queue (ends l.flow) v' x y)) ev

-- a source by its persons
module _ (t : Tables) (e : Element) (r : Line) where
  pub source_empty : e.persons ≡ 0 → r ≡ shown e (empty_source t e) → r ≡ shown e (source t e)
  unfolding source
  source_empty z h = h ∙ ap (shown e) (sym (cond-true (eqb e.persons 0) (empty_source t e) (full_source t e.kind e) (eq-eqb _ _ z)))

  pub source_full : (e.persons ≡ 0 → ⊥) → r ≡ shown e (full_source t e.kind e) → r ≡ shown e (source t e)
  unfolding source
  source_full some h = h ∙ ap (shown e) (sym (cond-false (eqb e.persons 0) (empty_source t e) (full_source t e.kind e) (ne_eqb _ _ some)))
