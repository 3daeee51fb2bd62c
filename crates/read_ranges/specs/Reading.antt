-- What the code's answers say of a reading.
use Rattle.std.specs.Prelude.{Result, Ok, Err, ℕ, ◌≡◌, Option, Some, None}
use Rattle.meaning.specs.declared.reasons.Refusal.{Refusal}
use Rattle.meaning.specs.Read.{Read, read_refused, read_got}
use Rattle.meaning.specs.Reasons.{number_of}
use Rattle.read_ranges.specs.Cursors.{Cursor}

-- what was made of the answer, and the place after it; or the number and the place of the refusal
abbrev pub told_by : {A B : Type 0} → (A → B) → Result A Refusal → Cursor → Read B
told_by made (Ok x) c = read_got (made x) c.at
told_by made (Err r) c = read_refused (number_of r.reason) r.at

-- the answer as it is
abbrev pub told : {A : Type 0} → Result A Refusal → Cursor → Read A
told (Ok x) c = read_got x c.at
told (Err r) c = read_refused (number_of r.reason) r.at

-- the same, where a value outside of what is asked is none: a refusal by some number, where the field begins
abbrev pub told_or : ℕ → ℕ → Result (Option ℕ) Refusal → Cursor → Read ℕ
told_or number at (Ok (Some x)) c = read_got x c.at
told_or number at (Ok None) c = read_refused number at
told_or number at (Err r) c = read_refused (number_of r.reason) r.at

-- the same image, whatever was read
abbrev pub Follows : Cursor → Cursor → Type 0
Follows old new = new.image ≡ old.image
