pub mod Numbers
pub mod FractionLaws
pub mod Rounding
pub mod Formulas
pub mod SumLaws
pub mod Totals
