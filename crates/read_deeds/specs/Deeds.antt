-- What the code's answers about an action say: the type that the tests name for a buffer, and the deed.
use Rattle.std.specs.Prelude.{if◌then◌else◌, ℕ, List, get_or, Option, Some, None, Result}
use Rattle.meaning.specs.declared.reasons.Refusal.{Refusal}
use Rattle.meaning.specs.Model.{Test, Deed, Action, Sizes}
use Rattle.meaning.specs.Read.{Read, Reader, and_then, field}
use Rattle.meaning.specs.Numbers.{finer}
use Rattle.meaning.specs.Image.{is_tested, tested_type, kind_rule, deed}
use Rattle.layout.specs.Rows.{masked_in, deed_of}
use Rattle.read_ranges.specs.Cursors.{Cursor}
use Rattle.read_ranges.specs.Reading.{told_by}

-- the type that the first test of buffer b names, or that none does
abbrev pub tested_of : List Test → ℕ → Option ℕ
tested_of ts b = if is_tested ts b then Some (tested_type ts b) else None

-- the deed that stands in a row, and the answer with it
abbrev pub deed_in : List ℕ → Deed
deed_in row = deed_of (get_or row 1 0) (masked_in row 0)

abbrev pub says : Result Unit Refusal → Cursor → List ℕ → Read Deed
says r c row = told_by (λ u. deed_in row) r c

-- what an action has after its buffer: "kind 2 bits", and what the kind asks
abbrev pub kind_and_deed : Sizes → ℕ → List Test → ℕ → Reader Deed
kind_and_deed z variables ts b = and_then (field 2 (kind_rule finer ts b)) (deed finer z variables ts b)

-- a deed on a buffer
abbrev pub acts : ℕ → Deed → Action
acts b d = record { buffer = b; deed = d }
