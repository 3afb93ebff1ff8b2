-- What a rule book adds: the response duration in seconds and the factor in tenths, by case,
-- and the limit in minutes, by ship kind and number of zones.
use Rattle.std.specs.Prelude.{ℕ}
use Rattle.walking.specs.Curves.{nearest}
use Rattle.walking.specs.Laws.{Within}

pub record Rules : Type 0 where
  pub response : ℕ → ℕ
  pub factor : ℕ → ℕ
  pub limit : ℕ → ℕ → ℕ

-- the answers: outside cases 1 to 4, ship kinds 1 to 2 and zones 1 to 20, those of the nearest number
abbrev pub response_of : Rules → ℕ → ℕ
response_of r n = r.response (nearest 1 4 n)

abbrev pub factor_of : Rules → ℕ → ℕ
factor_of r n = r.factor (nearest 1 4 n)

abbrev pub limit_of : Rules → ℕ → ℕ → ℕ
limit_of r kind zones = r.limit (nearest 1 2 kind) (nearest 1 20 zones)

-- their ranges
pub record InRange (r : Rules) : Type 0 where
  pub responses : (n : ℕ) → Within 0 (response_of r n) 3600
  pub factors : (n : ℕ) → Within 10 (factor_of r n) 50
  pub limits : (kind zones : ℕ) → Within 1 (limit_of r kind zones) 240
