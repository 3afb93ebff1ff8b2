-- Records and their bytes determine each other.
use Rattle.std.specs.Prelude.{◌≡◌, ℕ, ◌^◌, ◌<◌, List, Some}
use Rattle.std.specs.List.{AllByRecursion}
use Rattle.network.specs.Lawful.{Within}
use Rattle.layout.specs.declared.Record.{Record}
use Rattle.layout.specs.declared.Record.TheVariants.{Opening, Element, Lower, Upper}
use Rattle.layout.specs.Records.{encode, decode}

-- every number fits its bytes, and a count is 1 to 128
abbrev pub Fits : Record → Type 0
Fits (Opening o) = (o.case_data.embarkation < 256 ^ 4) × (o.number < 256 ^ 4) × Within 1 o.count 128
Fits (Element d) = (d.width < 256 ^ 4) × (d.length < 256 ^ 4) × (d.persons < 256 ^ 4)
Fits (Lower v low) = low < 256 ^ 8
Fits (Upper g high) = high < 256 ^ 8

-- what was encoded decodes to the same
abbrev pub DecodingUndoesEncoding : Type 0
DecodingUndoesEncoding = (x : Record) → Fits x → decode (encode x) ≡ Some x

-- bytes that decode are the encoding of what they decode to
abbrev pub EncodingUndoesDecoding : Type 0
EncodingUndoesDecoding = (bs : List ℕ) (x : Record) → AllByRecursion (λ b. b < 256) bs → decode bs ≡ Some x → encode x ≡ bs
