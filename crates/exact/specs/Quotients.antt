-- What a quotient in the code means.
use Rattle.exact.specs.declared.Quotient.{Quotient}
use Rattle.exact.specs.Fractions.{Fraction}

abbrev pub fraction : Quotient → Fraction
fraction q = record { num = q.dividend; den = q.divisor }
