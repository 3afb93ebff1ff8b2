-- What a corridor gives in which persons stand at the start: p persons on a width w and a length l, in millimetres.
use Rattle.std.specs.Prelude.{ℕ, ◌*◌, ◌^◌, ◌≤◌}
use Rattle.exact.specs.Fractions.{scaled}
use Rattle.exact.specs.Worked.{Worked, rounded, rising}
use Rattle.walking.specs.Curves.{Tables, flow, speed}
use Rattle.walking.specs.Laws.{Within}
use Rattle.curves.specs.Reading.{read_across}

-- the ranges of such a corridor
pub record SourceRanges (p w l : ℕ) : Type 0 where
  pub persons : p ≤ 8000
  pub width : Within 500 w 10000
  pub length : Within 100 l 100000

-- persons per square metre, in billionths
abbrev pub density : ℕ → ℕ → ℕ → Worked
density p w l = rounded (record { num = p * 10 ^ 15; den = w * l })

-- read in curve 1 at both ends of the density
abbrev pub source_specific_flow : Tables → ℕ → ℕ → ℕ → Worked
source_specific_flow t p w l = read_across flow t.density (density p w l)

abbrev pub source_speed : Tables → ℕ → ℕ → ℕ → Worked
source_speed t p w l = read_across speed t.density (density p w l)

-- a flow from a specific flow s, through the width w
abbrev pub through : ℕ → Worked → Worked
through w s = rising (scaled w 1000) s

abbrev pub source_flow : Tables → ℕ → ℕ → ℕ → Worked
source_flow t p w l = through w (source_specific_flow t p w l)
