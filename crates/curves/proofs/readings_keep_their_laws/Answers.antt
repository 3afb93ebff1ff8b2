use Rattle.curves.proofs.Readings.{density_reads_amid, across_encloses, speed_falls, speed_falls_slowly, falling_curve_encloses, speeds_in_range, columns_in_range}
use Rattle.curves.proofs.readings_keep_their_laws.Goals as goal

pub returns : goal.returns
returns c = record {
  amid = density_reads_amid;
  across = across_encloses;
  falls = speed_falls;
  slowly = speed_falls_slowly;
  encloses = falling_curve_encloses;
  speeds = speeds_in_range;
  columns = columns_in_range;
}
