-- The sixteen bytes of a record, and what sixteen bytes say.
use Rattle.std.specs.Prelude.{ℕ, Bool, cond, not, ◌&&◌, List, ◌∷◌, ◌++◌, length, drop, Some, None, Option, ◌==◌, slice_index}
use Rattle.network.specs.Sentences.{outside}
use Rattle.verdicts.specs.Verdicts.{verdict_number, verdict_of}
use Rattle.layout.specs.declared.Record.{Record}
use Rattle.layout.specs.declared.Record.TheVariants.{Opening, Element, Lower, Upper}
use Rattle.layout.specs.Numbers.{bytes_of, number_at, zeros_at}

-- A record is a tag, three bytes, and twelve bytes more; bytes that hold nothing are 0.
unfoldable pub encode : Record → List ℕ
encode (Opening o) =
    1 ∷ o.case_data.case_number ∷ o.case_data.ship_kind ∷ o.case_data.zones
    ∷ (bytes_of 4 o.case_data.embarkation ++ (bytes_of 4 o.number ++ (0 ∷ 0 ∷ bytes_of 2 o.count)))
encode (Element d) = 2 ∷ d.kind ∷ d.from ∷ d.to ∷ (bytes_of 4 d.width ++ (bytes_of 4 d.length ++ bytes_of 4 d.persons))
encode (Lower v low) = 3 ∷ verdict_number v ∷ 0 ∷ 0 ∷ (0 ∷ 0 ∷ 0 ∷ 0 ∷ bytes_of 8 low)
encode (Upper g high) = 4 ∷ g ∷ 0 ∷ 0 ∷ (0 ∷ 0 ∷ 0 ∷ 0 ∷ bytes_of 8 high)

abbrev pub when : Bool → Record → Option Record
when b x = cond b (Some x) None

-- ---- what the three bytes a, b, c and the rest say under each tag; indices are those of the rest, which is twelve bytes

-- a count of 1 to 128
abbrev pub opening_in : ℕ → ℕ → ℕ → List ℕ → Option Record
opening_in a b c rest =
    when (length rest == 12 && (zeros_at 8 2 rest && not (outside 1 128 (number_at 10 2 rest))))
    (Opening (record {
      case_data = record { case_number = a; ship_kind = b; zones = c; embarkation = number_at 0 4 rest };
      number = number_at 4 4 rest;
      count = number_at 10 2 rest;
    }))

-- whether the element is lawful is another question
abbrev pub element_in : ℕ → ℕ → ℕ → List ℕ → Option Record
element_in a b c rest =
    when (length rest == 12)
    (Element (record { kind = a; from = b; to = c; width = number_at 0 4 rest; length = number_at 4 4 rest; persons = number_at 8 4 rest }))

-- a verdict of 1 to 3
abbrev pub lower_in : ℕ → ℕ → ℕ → List ℕ → Option Record
lower_in a b c rest =
    when (length rest == 12 && (b == 0 && (c == 0 && (zeros_at 0 4 rest && not (outside 1 3 a)))))
    (Lower (verdict_of a) (number_at 4 8 rest))

abbrev pub upper_in : ℕ → ℕ → ℕ → List ℕ → Option Record
upper_in a b c rest =
    when (length rest == 12 && (b == 0 && (c == 0 && zeros_at 0 4 rest)))
    (Upper a (number_at 4 8 rest))

-- none where the layout is broken
abbrev pub decode_by : ℕ → ℕ → ℕ → ℕ → List ℕ → Option Record
decode_by tag a b c rest =
    cond (tag == 1) (opening_in a b c rest)
    (cond (tag == 2) (element_in a b c rest)
    (cond (tag == 3) (lower_in a b c rest)
    (cond (tag == 4) (upper_in a b c rest) None)))

unfoldable pub decode : List ℕ → Option Record
decode bs = decode_by (slice_index bs 0) (slice_index bs 1) (slice_index bs 2) (slice_index bs 3) (drop 4 bs)
