-- A walk back from an element, the element, and a walk onward from it make a used route, and every used route through it is such a one.
use Rattle.std.proofs.Common.{◌≡◌, ℕ, ◌+◌, ◌<◌, ◌≤◌, List, [], ◌∷◌, sym, refl, ap, subst, inl, inr, ⊎_elim, arith}
use Rattle.std.proofs.lemmas.Bool.{cases_lt}
use Rattle.network.specs.declared.Element.{Element}
use Rattle.network.specs.Elements.{el}
use Rattle.sheet.specs.Lines.{WorkedLine, at, shown}
use Rattle.ways.specs.declared.End.{End}
use Rattle.ways.specs.declared.Way.TheVariants.{Back, Onward}
use Rattle.ways.specs.Routes.{Crossed, Used, greatest, summed}
use Rattle.ways.specs.Routes.{Onward as LeadsOn}
use Rattle.ways.specs.Ends.{In}
use Rattle.ways.specs.Walks.{Net, net, Walks}
use Rattle.ways.proofs.Listed.{Goes, used_from_goes, goes_from_used, onward_from_goes}

-- a, last first, and then b
abbrev pub back : List ℕ → List ℕ → List ℕ
back [] b = b
back (i ∷ a) b = back a (i ∷ b)

pub summed_back : (g : ℕ → ℕ) (a b : List ℕ) → summed g (back a b) ≡ summed g a + summed g b
summed_back g [] b = omega arith
summed_back g (i ∷ a) b = let e = summed_back g a (i ∷ b) in omega arith

pub in_back : (i : ℕ) (a b : List ℕ) → In i b → In i (back a b)
in_back i [] b o = o
in_back i (j ∷ a) b o = in_back i a (j ∷ b) (inr o)

-- an element of a nonempty list at which g is greatest
pub greatest_at : (g : ℕ → ℕ) (i : ℕ) (r : List ℕ) → (j : ℕ) × In j (i ∷ r) × (g j ≡ greatest g (i ∷ r))
greatest_at g i [] = (i, inl refl, omega arith)
greatest_at g i (k ∷ r) =
    let t = greatest_at g k r in
    ⊎_elim
    (λ (lt : g i < greatest g (k ∷ r)). (t.0, inr t.1, (let e = t.2 in omega arith)))
    (λ (ge : greatest g (k ∷ r) ≤ g i). (i, inl refl, omega arith))
    (cases_lt (g i) (greatest g (k ∷ r)))

pub greatest_above : (g : ℕ → ℕ) (i : ℕ) (r : List ℕ) → In i r → g i ≤ greatest g r
greatest_above g i [] o = absurd o
greatest_above g i (k ∷ r) (inl e) = let q = ap g e in omega arith
greatest_above g i (k ∷ r) (inr o) = let q = greatest_above g i r o in omega arith

-- the network of the worksheet
abbrev pub worked_net : End → List Element → List WorkedLine → Net
worked_net e es ls = net e es (λ i. shown (el es i) (at ls i))

module _ (e : End) (es : List Element) (ls : List WorkedLine) where
  pub in_crossed : (p i : ℕ) (r : List ℕ) → In i r → Goes es ls p r → Crossed es ls i
  in_crossed p i [] o g = absurd o
  in_crossed p i (j ∷ r) (inl s) g = subst (λ (k : ℕ). Crossed es ls k) (sym s) g.0
  in_crossed p i (j ∷ []) (inr o) g = absurd o
  in_crossed p i (j ∷ k ∷ r) (inr o) g = in_crossed (el es j).to i (k ∷ r) o (g.2.1, g.2.2, g.2.3)

  -- walks onward are what the routes lead on by
  walks_from_leads : (p : ℕ) (r : List ℕ) → LeadsOn es ls p r → Walks Onward (worked_net e es ls) p r
  walks_from_leads p [] h = h
  walks_from_leads p (i ∷ r) h = (h.0, h.1, h.2, walks_from_leads (el es i).to r h.3)

  leads_from_walks : (p : ℕ) (r : List ℕ) → Walks Onward (worked_net e es ls) p r → LeadsOn es ls p r
  leads_from_walks p [] h = h
  leads_from_walks p (i ∷ r) h = (h.0, h.1, h.2, leads_from_walks (el es i).to r h.3)

  join : (p : ℕ) (a b : List ℕ) → Walks Back (worked_net e es ls) p a → Goes es ls p b → Used es ls (back a b)
  join p [] b c g = used_from_goes es ls b (subst (λ (q : ℕ). Goes es ls q b) c g)
  join p (i ∷ a) b c g =
      join (el es i).from a (i ∷ b) c.3 (c.1, refl, subst (λ (q : ℕ). LeadsOn es ls q b) (sym c.2) (onward_from_goes es ls p b c.0 g))

  pub route_through : (i : ℕ) → Crossed es ls i → (a b : List ℕ) → Walks Back (worked_net e es ls) (el es i).from a → Walks Onward (worked_net e es ls) (el es i).to b
      → Used es ls (back a (i ∷ b))
  route_through i c a b h k = join (el es i).from a (i ∷ b) h (c, refl, leads_from_walks (el es i).to b k)

  -- a used route through i, cut at i
  pub record Cut (i : ℕ) (r : List ℕ) : Type 0 where
    pub before : List ℕ
    pub after : List ℕ
    pub comes : Walks Back (worked_net e es ls) (el es i).from before
    pub goes : Walks Onward (worked_net e es ls) (el es i).to after
    pub whole : back before (i ∷ after) ≡ r

  cuts : (p i : ℕ) (a b : List ℕ) → Walks Back (worked_net e es ls) p a → Goes es ls p b → In i b → Cut i (back a b)
  cuts p i a [] c g o = absurd o
  cuts p i a (j ∷ b) c g (inl s) =
      let P : ℕ → Type 0 = λ k. Cut k (back a (j ∷ b)) in
      subst P (sym s) (record {
        before = a;
        after = b;
        comes = subst (λ (q : ℕ). Walks Back (worked_net e es ls) q a) (sym g.1) c;
        goes = walks_from_leads (el es j).to b g.2;
        whole = refl;
      })
  cuts p i a (j ∷ []) c g (inr o) = absurd o
  cuts p i a (j ∷ k ∷ b) c g (inr o) =
      cuts (el es j).to i (j ∷ a) (k ∷ b) (g.2.0, g.0, refl, subst (λ (q : ℕ). Walks Back (worked_net e es ls) q a) (sym g.1) c) (g.2.1, g.2.2, g.2.3) o

  pub cut_at : (i : ℕ) (r : List ℕ) → Used es ls r → In i r → Cut i r
  cut_at i r u o = cuts 0 i [] r refl (goes_from_used es ls r u) o
