-- Points that lead nowhere, or come from nowhere.
use Rattle.std.specs.Prelude.{ℕ, zero, suc, Bool, true, false, not, List, [], ◌∷◌}
use Rattle.network.specs.declared.Element.{Element}
use Rattle.network.specs.Sentences.{Sentence, says}
use Rattle.network.specs.Elements.{has_arrivals, has_departures}

abbrev pub differ : Bool → Bool → Bool
differ true b = not b
differ false b = b

-- arrivals and no departure, or the reverse
abbrev pub loose : List Element → ℕ → Bool
loose es p = differ (has_arrivals es p) (has_departures es p)

-- one sentence for each of n points from p on
abbrev pub sentences_from : List Element → ℕ → ℕ → List Sentence
sentences_from es p zero = []
sentences_from es p (suc n) = says (loose es p) 12 p ∷ sentences_from es (suc p) n

-- of the points 1 to 64, the lowest first
unfoldable pub point_sentences : List Element → List Sentence
point_sentences es = sentences_from es 1 64
