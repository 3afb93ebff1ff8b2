use Rattle.std.proofs.Common.{◌≡◌, ℕ, ◌-◌, ◌∙◌, ◌<◌, ◌≤◌, false, rules, ap}
use Rattle.std.proofs.iter.runs.Sources.{ranges}
use Rattle.network.specs.Refusals.{refused}
use Rattle.network.specs.Points.{loose}
use Rattle.network.specs.Tables.{listed}
use Rattle.network.proofs.Points.{held_at, first_loose, none_loose, tied_by}
use Rattle.network.proofs.ElementTable.check_points.Goals as goal
use Rattle.network.proofs.ElementTable.check_points.Goals.{After-from, In-None}

before : (c : After-from) (p : ℕ) → 1 ≤ p → p < c.in-Some.point → loose (listed c.args.self.now) p ≡ false
before c p lo hi =
    held_at (λ q. loose (listed c.args.self.now) q ≡ false) (c.find.ensures.runs.0.at (p - 1)) p (search (rules, ranges)) (search (rules, ranges))

none : (c : In-None) (p : ℕ) → 1 ≤ p → p ≤ 64 → loose (listed c.args.self.now) p ≡ false
none c p lo hi =
    held_at (λ q. loose (listed c.args.self.now) q ≡ false) (c.find.ensures.runs.0.at (p - 1)) p (search (rules, ranges)) (search (rules, ranges))

pub returns-in-Some-clause-answered : goal.returns-in-Some-clause-answered
returns-in-Some-clause-answered c =
    ap (refused 12) c.from.ensures ∙ first_loose (listed c.args.self.now) c.in-Some.point (search (rules, ranges)) (search (rules, ranges)) (before c) (search (rules, ranges))

pub returns-in-None-clause-answered : goal.returns-in-None-clause-answered
returns-in-None-clause-answered c = none_loose (listed c.args.self.now) (none c)

pub returns-in-None-clause-tied : goal.returns-in-None-clause-tied
returns-in-None-clause-tied c = tied_by (listed c.args.self.now) (none c)
