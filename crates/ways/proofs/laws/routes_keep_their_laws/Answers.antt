use Rattle.std.proofs.Common.{sym, subst}
use Rattle.ways.specs.declared.End.TheVariants.{Upper}
use Rattle.ways.specs.Ends.{IsEnd}
use Rattle.ways.proofs.Listed.{used_listed, listed_used}
use Rattle.ways.proofs.Sized.{worked_walkable}
use Rattle.ways.proofs.Found.{on_a_route}
use Rattle.ways.proofs.Agreed.{some_route, end_is, is_end, governing_is, governs, governs_end}
use Rattle.ways.proofs.Bounds.{time_encloses, none_above, one_reaches, slowest_exists, slowest_between, ends_near, ends_close}
use Rattle.ways.proofs.Sample.{some_worksheet}
use Rattle.ways.proofs.laws.routes_keep_their_laws.Goals as goal

pub returns : goal.returns
returns c = record {
  passed = λ es ls rd fs. on_a_route Upper es ls (worked_walkable es ls rd fs Upper);
  exists = λ es ls rd fs. some_route Upper es ls rd fs;
  listed = λ es ls rd r. (used_listed es ls rd r, listed_used es ls r);
  ends = λ e es ls rd fs x. (end_is e es ls rd x, λ q. subst (IsEnd e es ls) (sym q) (is_end e es ls rd fs));
  governing = λ es ls rd fs i. (governing_is Upper es ls rd i, governs Upper es ls rd fs i);
  makes_the_end = λ es ls rd fs. governs_end Upper es ls rd fs;
  encloses = time_encloses;
  none_above = none_above;
  one_reaches = one_reaches;
  slowest = slowest_exists;
  between = slowest_between;
  near = ends_near;
  close = ends_close;
  some = some_worksheet;
}
