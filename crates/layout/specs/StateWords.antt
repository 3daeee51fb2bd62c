-- A state as it stands in words: eleven to a buffer (type, eight slots, delay, and 1 if the error flag is set), 88 in all; the clock stands by itself.
use Rattle.std.specs.Prelude.{ℕ, ◌+◌, ◌*◌, ◌≡◌, List, eqb, get_or}
use Rattle.meaning.specs.declared.Buffer.{Buffer}
use Rattle.meaning.specs.declared.State.{State}
use Rattle.layout.specs.Rows.{rows_in}

abbrev pub buffer_in : List ℕ → ℕ → Buffer
buffer_in w k =
    record { isa = get_or w (11 * k) 0; slots = rows_in (λ b. get_or w (11 * k + 1 + b) 0) 0 8; delay = get_or w (11 * k + 9) 0; error = eqb (get_or w (11 * k + 10) 0) 1 }

abbrev pub buffers_in : List ℕ → List Buffer
buffers_in w = rows_in (buffer_in w) 0 8

abbrev pub state_in : List ℕ → ℕ → State
state_in w clock = record { buffers = buffers_in w; clock = clock }
