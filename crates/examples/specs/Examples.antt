-- Worked examples by the circular: what the definitions give, beside the numbers that they should give.
use Rattle.std.specs.Prelude.{◌≡◌, ℕ, List, [], ◌∷◌, map}
use Rattle.exact.specs.Worked.{Worked}
use Rattle.walking.specs.Circular.{circular, circular_rules}
use Rattle.reading.specs.Sources.{source_flow, source_speed}
use Rattle.network.specs.declared.Kind.{Kind}
use Rattle.network.specs.declared.Kind.TheVariants.{Corridor, Door, StairUp}
use Rattle.network.specs.declared.Element.{Element}
use Rattle.network.specs.declared.CaseData.{CaseData}
use Rattle.sheet.specs.Lines.{at, flow_duration}
use Rattle.sheet.specs.Shares.{share}
use Rattle.sheet.specs.Sheet.{sheet}
use Rattle.ways.specs.Ends.{lower_end, upper_end}
use Rattle.verdicts.specs.Verdicts.{verdict, verdict_number}

pub record Example : Type 0 where
  pub given : List ℕ
  pub expected : List ℕ

abbrev pub both : Worked → List ℕ
both w = w.lower ∷ w.upper ∷ []

-- a corridor of this many persons, on this width and length
abbrev pub corridor_flow : ℕ → ℕ → ℕ → List ℕ
corridor_flow p w l = both (source_flow circular p w l)

abbrev pub corridor_speed : ℕ → ℕ → ℕ → List ℕ
corridor_speed p w l = both (source_speed circular p w l)

-- ---- networks: kind, from, to, width, length, persons

abbrev pub element : Kind → ℕ → ℕ → ℕ → ℕ → ℕ → Element
element k f t w l p = record { kind = k; from = f; to = t; width = w; length = l; persons = p }

abbrev pub door_to : ℕ → Element
door_to p = element Door 0 p 1000 0 100

-- both ends of a network's time
abbrev pub found : List Element → List ℕ
found es = lower_end es (sheet circular es) ∷ upper_end es (sheet circular es) ∷ []

-- the shares of n persons who come to point 1, which two corridors of these widths leave
abbrev pub shares : ℕ → ℕ → ℕ → List ℕ
shares n v w =
    let es = element Corridor 1 0 v 9500 0 ∷ element Corridor 1 0 w 7500 0 ∷ [] in
    share es 1 n 0 ∷ share es 1 n 1 ∷ []

-- ---- verdicts of a day case with a limit of 60 minutes and 1,800 seconds for embarkation and launching

abbrev pub day : CaseData
day = record { case_number = 2; ship_kind = 1; zones = 3; embarkation = 1800 }

abbrev pub verdict_on : ℕ → ℕ → List ℕ
verdict_on lower upper = verdict_number (verdict circular_rules day lower upper) ∷ []

abbrev pub examples : List Example
examples =
    record { given = corridor_flow 11 900 13000; expected = 768928571 ∷ 768928572 ∷ [] }
    ∷ record { given = corridor_speed 11 900 13000; expected = 1033363858 ∷ 1033363859 ∷ [] }
    ∷ record { given = corridor_flow 5 1000 10000; expected = 650000000 ∷ 650000000 ∷ [] }
    ∷ record { given = corridor_flow 19 1000 10000; expected = 1300000000 ∷ 1300000000 ∷ [] }
    ∷ record { given = corridor_flow 35 1000 10000; expected = 320000000 ∷ 320000000 ∷ [] }
    ∷ record { given = corridor_speed 35 1000 10000; expected = 100000000 ∷ 100000000 ∷ [] }
    ∷ record { given = corridor_flow 36 1000 10000; expected = 320000000 ∷ 320000000 ∷ [] }
    ∷ record { given = corridor_speed 36 1000 10000; expected = 100000000 ∷ 100000000 ∷ [] }
    ∷ record { given = both (flow_duration (at (sheet circular (door_to 0 ∷ [])) 0)); expected = 76923076 ∷ 76923077 ∷ [] }
    ∷ record { given = shares 598 2000 2500; expected = 266 ∷ 332 ∷ [] }
    ∷ record { given = shares 449 2000 2500; expected = 200 ∷ 249 ∷ [] }
    ∷ record { given = shares 3 1000 1000; expected = 2 ∷ 1 ∷ [] }
    ∷ record { given = found (element Corridor 0 0 900 13000 11 ∷ []); expected = 26885893 ∷ 26885895 ∷ [] }
    ∷ record { given = found (door_to 1 ∷ element StairUp 1 0 1400 4670 0 ∷ []); expected = 91782467 ∷ 91782469 ∷ [] }
    ∷ record { given = verdict_on 704347826 704347826; expected = 1 ∷ [] }
    ∷ record { given = verdict_on 704347827 704347827; expected = 2 ∷ [] }
    ∷ []

abbrev pub ExamplesHold : Type 0
ExamplesHold = map (λ e. e.given) examples ≡ map (λ e. e.expected) examples
