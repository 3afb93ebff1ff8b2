use Rattle.std.proofs.Common.{◌≡◌, ◌+◌, ap, ◌∙◌, rules, tests}
use Rattle.std.specs.List.{position}
use Rattle.std.specs.Option.{option_map}
use Rattle.std.proofs.lemmas.Iterator.{YieldsList-from_slice}
use Rattle.std.proofs.lemmas.Iterator.Search.{position_from_yields_List}
use Rattle.worksheet.specs.Thin.{line_thin}
use Rattle.worksheet.proofs.ThinLines.{thin_number}
use Rattle.worksheet.proofs.thin_flows.first_thin.Goals as goal

pub returns : goal.returns
returns c =
    let place : c.position.result ≡ position line_thin c.args.sheet.now =
    position_from_yields_List line_thin _ _ c.position.result c.position.ensures.ran (YieldsList-from_slice c.args.sheet.now cc) (λ x b q k. search (rules, tests)) in
    let number : c.map.result ≡ option_map (λ i. i + 1) c.position.result = search rules in
    number ∙ ap (option_map (λ i. i + 1)) place ∙ thin_number c.args.sheet.now
