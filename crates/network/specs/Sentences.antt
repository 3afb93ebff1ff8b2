-- A call is refused by the first true sentence of its list.
use Rattle.std.specs.Prelude.{ℕ, Bool, cond, ◌||◌, List, [], ◌∷◌, nat_lt}
use Rattle.network.specs.Refusals.{Answer, accepted, refused}

-- a sentence that may be true, and the refusal it then stands for
pub record Sentence : Type 0 where
  pub holds : Bool
  pub number : ℕ
  pub place : ℕ

abbrev pub says : Bool → ℕ → ℕ → Sentence
says b n p = record { holds = b; number = n; place = p }

-- the refusal of the first true sentence, or acceptance with what the call gives
abbrev pub first_true : {A : Type 0} → List Sentence → A → Answer A
first_true [] given = accepted given
first_true (s ∷ rest) given = cond s.holds (refused s.number s.place) (first_true rest given)

abbrev pub outside : ℕ → ℕ → ℕ → Bool
outside low high x = nat_lt x low || nat_lt high x
