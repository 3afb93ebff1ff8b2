use Rattle.exact.proofs.FractionLaws.{le_trans}
use Rattle.exact.proofs.Formulas.{scaled_rises, capped_rises, over_sinks}
use Rattle.exact.proofs.Rounding.{rising_encloses, falling_encloses, rounded_encloses}
use Rattle.exact.proofs.SumLaws.{where_plus, where_times, where_mono}
use Rattle.exact.proofs.Totals.{total_encloses}
use Rattle.exact.proofs.laws.exact_numbers_keep_their_laws.Goals as goal

pub returns : goal.returns
returns c = record {
  rising = rising_encloses;
  falling = falling_encloses;
  scaled = scaled_rises;
  capped = capped_rises;
  over = over_sinks;
  rounded = rounded_encloses;
  total = total_encloses;
  order = le_trans;
  sums_add = where_plus;
  sums_scale = λ n t m f. where_times n t f f m;
  sums_compare = where_mono;
}
