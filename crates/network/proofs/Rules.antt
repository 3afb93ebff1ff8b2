-- The sentences let through exactly what the rules allow.
use Rattle.std.proofs.Common.{◌≡◌, ℕ, ◌<◌, ◌≤◌, Bool, true, false, not, ◌&&◌, ◌||◌, eqb, ltb, ◌⊎◌, refl, ap, inl, inr, arith}
use Rattle.std.proofs.lemmas.Bool.Decides.{nat_tests}
use Rattle.network.specs.declared.Kind.{Kind}
use Rattle.network.specs.declared.Kind.TheVariants.{Corridor, Door, StairDown, StairUp}
use Rattle.network.specs.declared.Element.{Element}
use Rattle.network.specs.declared.CaseData.{CaseData}
use Rattle.network.specs.Kinds.{is_stair}
use Rattle.network.specs.Sentences.{outside}
use Rattle.network.specs.Checks.{wrong_length, wrong_points, measure_sentences, case_sentences}
use Rattle.network.specs.Lawful.{Within, LawfulElement, LawfulCase}
use Rattle.network.proofs.First.{NoneTrue}

pub inside : (low high x : ℕ) → outside low high x ≡ false → Within low x high
inside low high x e = (grind (arith, nat_tests), grind (arith, nat_tests))

pub not_outside : (low high x : ℕ) → Within low x high → outside low high x ≡ false
not_outside low high x h = grind (arith, nat_tests)

-- by a number that the code has
pub outside_by : (low high n x : ℕ) → n ≡ x → (n < low) ⊎ ((low ≤ n) × (high < n)) → outside low high x ≡ true
outside_by low high n x e h = grind (arith, nat_tests)

rising : (from to : ℕ) → wrong_points from to ≡ false → (from ≡ 0) ⊎ ((to ≡ 0) ⊎ (from < to))
rising from to e = grind (arith, nat_tests)

near : (from to : ℕ) → wrong_points from to ≡ false → (from ≤ 64) × (to ≤ 64)
near from to e = (grind (arith, nat_tests), grind (arith, nat_tests))

points_pass : (from to : ℕ) → from ≤ 64 → to ≤ 64 → (from ≡ 0) ⊎ ((to ≡ 0) ⊎ (from < to)) → wrong_points from to ≡ false
points_pass from to f t r = grind (arith, nat_tests)

-- ---- by kind

no_length : (k : Kind) (n : ℕ) → wrong_length k n ≡ false → k ≡ Door → n ≡ 0
no_length Corridor n e q = absurd (cc)
no_length Door n e q = grind (arith, nat_tests)
no_length StairDown n e q = absurd (cc)
no_length StairUp n e q = absurd (cc)

some_length : (k : Kind) (n : ℕ) → wrong_length k n ≡ false → (k ≡ Door → ⊥) → Within 100 n 100000
some_length Corridor n e q = inside 100 100000 n e
some_length Door n e q = absurd (q refl)
some_length StairDown n e q = inside 100 100000 n e
some_length StairUp n e q = inside 100 100000 n e

length_passes : (k : Kind) (n : ℕ) → (k ≡ Door → n ≡ 0) → ((k ≡ Door → ⊥) → Within 100 n 100000) → wrong_length k n ≡ false
length_passes Corridor n d l = not_outside 100 100000 n (l (λ q. cc))
length_passes Door n d l = let z = d refl in grind (arith, nat_tests)
length_passes StairDown n d l = not_outside 100 100000 n (l (λ q. cc))
length_passes StairUp n d l = not_outside 100 100000 n (l (λ q. cc))

level : (k : Kind) → is_stair k ≡ false → (k ≡ Corridor) ⊎ (k ≡ Door)
level Corridor e = inl refl
level Door e = inr refl
level StairDown e = absurd (cc)
level StairUp e = absurd (cc)

no_stair : (k : Kind) → (k ≡ Corridor) ⊎ (k ≡ Door) → is_stair k ≡ false
no_stair k (inl e) = ap is_stair e
no_stair k (inr e) = ap is_stair e

at_source : (stair : Bool) (from persons : ℕ) → (ltb 8000 persons || (not (eqb persons 0) && (stair || not (eqb from 0)))) ≡ false → 0 < persons → (from ≡ 0) × (stair ≡ false)
at_source stair from persons e h = (grind (arith, nat_tests), grind (arith, nat_tests))

few_persons : (stair : Bool) (from persons : ℕ) → (ltb 8000 persons || (not (eqb persons 0) && (stair || not (eqb from 0)))) ≡ false → persons ≤ 8000
few_persons stair from persons e = grind (arith, nat_tests)

persons_pass : (stair : Bool) (from persons : ℕ) → persons ≤ 8000 → (0 < persons → (from ≡ 0) × (stair ≡ false)) → (ltb 8000 persons || (not (eqb persons 0) && (stair || not (eqb from 0)))) ≡ false
persons_pass stair from persons few s = grind (arith, nat_tests)

-- ---- a whole element

pub lawful_element : (e : Element) (n : ℕ) → NoneTrue (measure_sentences e n) → LawfulElement e
lawful_element e n f =
    let w = inside 500 10000 e.width f.0 in
    let p = near e.from e.to f.1.1.0 in
    record {
      wide = w.0;
      narrow = w.1;
      door = no_length e.kind e.length f.1.0;
      long = some_length e.kind e.length f.1.0;
      starts = p.0;
      ends = p.1;
      rises = rising e.from e.to f.1.1.0;
      few = few_persons (is_stair e.kind) e.from e.persons f.1.1.1.0;
      seated = λ h. let s = at_source (is_stair e.kind) e.from e.persons f.1.1.1.0 h in (s.0, level e.kind s.1);
    }

pub element_passes : (e : Element) (n : ℕ) → LawfulElement e → NoneTrue (measure_sentences e n)
element_passes e n l = (
  not_outside 500 10000 e.width (l.wide, l.narrow),
  (
    length_passes e.kind e.length l.door l.long,
    (
      points_pass e.from e.to l.starts l.ends l.rises,
      (
        persons_pass (is_stair e.kind) e.from e.persons l.few (λ h. ((l.seated h).0, no_stair e.kind (l.seated h).1)),
        tt,
      ),
    ),
  ),
)

pub lawful_case : (c : CaseData) → NoneTrue (case_sentences c) → LawfulCase c
lawful_case c f = record {
  case = inside 1 4 c.case_number f.0;
  ship = inside 1 2 c.ship_kind f.1.0;
  zones = inside 1 20 c.zones f.1.1.0;
  embarkation = let e = f.1.1.1.0 in grind (arith, nat_tests);
}

pub case_passes : (c : CaseData) → LawfulCase c → NoneTrue (case_sentences c)
case_passes c l = (
  not_outside 1 4 c.case_number l.case,
  (
    not_outside 1 2 c.ship_kind l.ship,
    (
      not_outside 1 20 c.zones l.zones,
      (
        let e = l.embarkation in grind (arith, nat_tests),
        tt,
      ),
    ),
  ),
)
