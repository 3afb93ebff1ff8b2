-- A door with 100 persons and a stair up after it, whose worksheet keeps the facts.
use Rattle.std.proofs.Common.{◌≡◌, ℕ, zero, suc, ◌<◌, ◌≤◌, true, false, ◌||◌, eqb, List, [], ◌∷◌, refl, inl, inr, arith}
use Rattle.std.proofs.lemmas.Bool.Decides.{nat_tests}
use Rattle.exact.specs.Sums.{sum_below}
use Rattle.exact.specs.Worked.{Encloses, exactly}
use Rattle.network.specs.declared.Kind.TheVariants.{Door, StairUp}
use Rattle.network.specs.declared.Element.{Element}
use Rattle.network.specs.Lawful.{LawfulElement}
use Rattle.network.specs.Elements.{el}
use Rattle.network.specs.Ready.{Ready}
use Rattle.sheet.specs.Lines.{WorkedLine, at}
use Rattle.ways.specs.Routes.{Crossed, duration_of, travel_of}
use Rattle.ways.specs.Facts.{Near, Facts}
use Rattle.ways.specs.Laws.{SomeWorksheet}

abbrev es : List Element
es =
    record { kind = Door; from = 0; to = 1; width = 1000; length = 0; persons = 100 }
    ∷ record { kind = StairUp; from = 1; to = 0; width = 1400; length = 4670; persons = 0 }
    ∷ []

abbrev ls : List WorkedLine
ls =
    record { persons = 100; queue = false; flow = exactly 1300000000; speed = exactly 0 }
    ∷ record { persons = 100; queue = true; flow = exactly 1232000000; speed = exactly 440000000 }
    ∷ []

door_lawful : LawfulElement (el es 0)
door_lawful = record {
  wide = omega arith;
  narrow = omega arith;
  door = λ _. refl;
  long = λ h. absurd (h refl);
  starts = omega arith;
  ends = omega arith;
  rises = inl refl;
  few = omega arith;
  seated = λ _. (refl, inr refl);
}

stair_lawful : LawfulElement (el es 1)
stair_lawful = record {
  wide = omega arith;
  narrow = omega arith;
  door = λ q. let z : ◌≡◌ {A = ℕ} 0 1 = cc in absurd (omega arith);
  long = λ _. (omega arith, omega arith);
  starts = omega arith;
  ends = omega arith;
  rises = inr (inl refl);
  few = omega arith;
  seated = λ h. absurd (omega arith);
}

tied_at : (p : ℕ) → ((false || eqb 1 p) || eqb 0 p) ≡ ((false || eqb 0 p) || eqb 1 p)
tied_at p = grind (arith, nat_tests)

es_ready : Ready es
unfolding sum_below
es_ready = record {
  few = omega arith;
  lawful = (door_lawful, (stair_lawful, tt));
  aboard_some = omega arith;
  aboard_most = omega arith;
  tied = λ p a b. tied_at p;
}

each : (P : ℕ → Type 0) → P 0 → P 1 → (i : ℕ) → Crossed es ls i → P i
each P a b zero c = a
each P a b (suc zero) c = b
each P a b (suc (suc i)) c = absurd (let l = c.0 in omega arith)

abbrev Timed : ℕ → Type 0
Timed i = (Encloses (duration_of ls i) × Near 2 (duration_of ls i)) × (Encloses (travel_of es ls i) × Near 2 (travel_of es ls i))

enclosed : (i : ℕ) → Crossed es ls i → Timed i
enclosed = each Timed
    ((record { proper = omega arith; low = omega arith; high = omega arith }, omega arith), (record { proper = omega arith; low = omega arith; high = omega arith }, omega arith))
    ((record { proper = omega arith; low = omega arith; high = omega arith }, omega arith), (record { proper = omega arith; low = omega arith; high = omega arith }, omega arith))

es_facts : Facts es ls
es_facts = record {
  size = refl;
  some = (0, (omega arith, omega arith));
  goes = each (λ i. 0 < (el es i).to → (j : ℕ) × Crossed es ls j × ((el es j).from ≡ (el es i).to)) (λ _. (1, (omega arith, omega arith), refl)) (λ h. absurd (omega arith));
  came = each (λ i. 0 < (el es i).from → (j : ℕ) × Crossed es ls j × ((el es j).to ≡ (el es i).from)) (λ h. absurd (omega arith)) (λ _. (0, (omega arith, omega arith), refl));
  few = each (λ i. (at ls i).persons ≤ 8000) (omega arith) (omega arith);
  steady = each (λ i. 10000000 ≤ (at ls i).flow.lower) (omega arith) (omega arith);
  durations = λ i c. (enclosed i c).0;
  travels = λ i c. (enclosed i c).1;
}

pub some_worksheet : SomeWorksheet
some_worksheet = (es, ls, es_ready, es_facts)
