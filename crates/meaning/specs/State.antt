-- The state: eight buffers and a clock; which buffers are visible, what nil is, which states are well formed.
use Rattle.std.specs.Prelude.{Bool, false, ◌&&◌, ◌||◌, not, List, [], ℕ, ltb, leb, eqb, length, get_or, drop, replicate}
use Rattle.meaning.specs.declared.Buffer.{Buffer}
use Rattle.meaning.specs.declared.State.{State}
use Rattle.meaning.specs.Base.{every}
use Rattle.meaning.specs.Model.{Model, Chunk}

-- "The nil chunk is type 0 with all slots 0." Here with its error flag clear
abbrev pub nil_after : ℕ → Buffer
nil_after delay = record { isa = 0; slots = replicate 8 0; delay = delay; error = false }

-- a chunk in a buffer, visible at once: "Opening flags are clear."
abbrev pub opens : Chunk → Buffer
opens c = record { isa = c.isa; slots = c.slots; delay = 0; error = false }

-- "an all-zero state"
abbrev pub zero_state : State
zero_state = record { buffers = replicate 8 (nil_after 0); clock = 0 }

-- what a read past the last buffer gives (a state has eight, so document 01 never meets it)
abbrev pub nothing : Buffer
nothing = record { isa = 0; slots = []; delay = 0; error = false }

abbrev pub buffer_of : State → ℕ → Buffer
buffer_of s b = get_or s.buffers b nothing

-- "A buffer is visible when its delay is 0, pending otherwise."
abbrev pub visible : Buffer → Bool
visible b = eqb b.delay 0

-- the slot count of a type
abbrev pub slot_count : List ℕ → ℕ → ℕ
slot_count types k = get_or types k 0

-- "The nil chunk is type 0 with all slots 0."
abbrev pub is_nil : Buffer → Bool
is_nil b = eqb b.isa 0 && every (λ v. eqb v 0) b.slots

-- "a set flag beside a chunk other than nil .. is 6"
abbrev pub flag_fits : Buffer → Bool
flag_fits b = not b.error || is_nil b

-- "each type is at most T, values are at most 4,095, slots past the type's count are 0"
abbrev pub well_buffer : List ℕ → Buffer → Bool
well_buffer types b =
    ltb b.isa (length types) && every (λ v. leb v 4095) b.slots && every (λ v. eqb v 0) (drop (slot_count types b.isa) b.slots) && flag_fits b

-- "hold nil with delay 0", and "a set flag .. past the buffer count, is 6"
abbrev pub is_unused : Buffer → Bool
is_unused b = is_nil b && eqb b.delay 0 && not b.error

-- "A state is well formed when each type is at most T, values are at most 4,095, slots past the type's count are 0,
-- and buffers past the image's count hold nil with delay 0"; and by request 2026-06 each set flag is beside nil, and none past the count.
unfoldable pub well_formed : Model → State → Bool
well_formed m s = every (well_buffer m.types) s.buffers && every is_unused (drop m.buffers s.buffers)
