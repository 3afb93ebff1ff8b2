-- What makes an element or case data wrong, in the order of checking.
use Rattle.std.specs.Prelude.{ℕ, Bool, not, ◌&&◌, ◌||◌, List, [], ◌∷◌, ◌==◌, nat_le, nat_lt}
use Rattle.network.specs.declared.Kind.{Kind}
use Rattle.network.specs.declared.Kind.TheVariants.{Corridor, Door, StairDown, StairUp}
use Rattle.network.specs.declared.Draft.{Draft}
use Rattle.network.specs.declared.Element.{Element}
use Rattle.network.specs.declared.CaseData.{CaseData}
use Rattle.network.specs.Kinds.{kind_of, is_stair}
use Rattle.network.specs.Sentences.{Sentence, says, outside}

-- the element that a draft describes
abbrev pub with_kind : Draft → Kind → Element
with_kind d k = record { kind = k; from = d.from; to = d.to; width = d.width; length = d.length; persons = d.persons }

abbrev pub element_of : Draft → Element
element_of d = with_kind d (kind_of d.kind)

-- a door has no length, anything else has 100 mm to 100 m
abbrev pub wrong_length : Kind → ℕ → Bool
wrong_length Corridor n = outside 100 100000 n
wrong_length Door n = not (n == 0)
wrong_length StairDown n = outside 100 100000 n
wrong_length StairUp n = outside 100 100000 n

-- points go up to 64, and between two points the way leads upward
abbrev pub wrong_points : ℕ → ℕ → Bool
wrong_points from to = nat_lt 64 from || nat_lt 64 to || (not (from == 0) && not (to == 0) && nat_le to from)

-- at most 8,000 persons, and none in a stair or behind a point
abbrev pub wrong_persons : Kind → ℕ → ℕ → Bool
wrong_persons kind from persons = nat_lt 8000 persons || (not (persons == 0) && (is_stair kind || not (from == 0)))

-- of an element that has, or would get, the number n
abbrev pub measure_sentences : Element → ℕ → List Sentence
measure_sentences e n =
    says (outside 500 10000 e.width) 5 n
    ∷ says (wrong_length e.kind e.length) 6 n
    ∷ says (wrong_points e.from e.to) 7 n
    ∷ says (wrong_persons e.kind e.from e.persons) 8 n
    ∷ []

abbrev pub element_sentences : Draft → ℕ → List Sentence
element_sentences d n = says (outside 1 4 d.kind) 4 n ∷ measure_sentences (element_of d) n

-- the place is that of the first wrong item
abbrev pub case_sentences : CaseData → List Sentence
case_sentences c =
    says (outside 1 4 c.case_number) 9 1
    ∷ says (outside 1 2 c.ship_kind) 9 2
    ∷ says (outside 1 20 c.zones) 9 3
    ∷ says (nat_lt 7200 c.embarkation) 9 4
    ∷ []
