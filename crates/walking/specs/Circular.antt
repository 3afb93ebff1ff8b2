-- The tables and rules of the circular, MSC.1/Circ.1238.
use Rattle.std.specs.Prelude.{◌%◌, cond, ◌&&◌, [], ◌∷◌, ◌==◌, nat_le, nat_lt}
use Rattle.walking.specs.Curves.{Tables}
use Rattle.walking.specs.Rules.{Rules}

abbrev pub circular : Tables
circular = record {
  density = (0, 0, 1200) ∷ (500, 650, 1200) ∷ (1900, 1300, 670) ∷ (3200, 650, 200) ∷ (3500, 320, 100) ∷ [];
  corridor = (0, 0, 1200) ∷ (650, 650, 1200) ∷ (1300, 1300, 670) ∷ [];
  down = (0, 0, 1000) ∷ (540, 540, 1000) ∷ (1100, 1100, 550) ∷ [];
  up = (0, 0, 800) ∷ (430, 430, 800) ∷ (880, 880, 440) ∷ [];
  door = 1300;
}

-- cases 1 and 3 are by night; 1 and 2, and 3 and 4, differ in the factor; ship kind 2 is not ro-ro
abbrev pub circular_rules : Rules
circular_rules = record {
  response = λ n. cond (n % 2 == 1) 600 300;
  factor = λ n. cond (nat_le n 2) 23 16;
  limit = λ kind zones. cond (kind == 2 && nat_lt 3 zones) 80 60;
}
