-- A buffer and a stretch of words, and whether the state in words is well formed.
use Rattle.std.specs.Prelude.{if◌then◌else◌, ℕ, ◌+◌, ◌-◌, ◌*◌, ◌≤◌, ◌<◌, ◌≡◌, refl, Bool, ◌&&◌, List, map, eqb, get_or, drop}
use Rattle.meaning.specs.declared.Buffer.{Buffer}
use Rattle.meaning.specs.Base.{every, up_from}
use Rattle.meaning.specs.Model.{Model}
use Rattle.meaning.specs.State.{well_buffer, is_unused, well_formed}
use Rattle.layout.specs.Rows.{rows_in}
use Rattle.layout.specs.StateWords.{buffers_in, state_in}

-- the word of a flag: 1 if it is set
abbrev pub flag_word : Bool → ℕ
flag_word error = if error then 1 else 0

-- the words of the first n flags are 0 or 1
abbrev pub Flags : List ℕ → ℕ → Type 0
Flags w n = (k : ℕ) → k < n → get_or w (11 * k + 10) 0 ≤ 1

-- the buffer that eleven words from o on hold: type, eight slots, delay, flag
abbrev pub buffer_at : List ℕ → ℕ → Buffer
buffer_at w o = record { isa = get_or w o 0; slots = map (λ b. get_or w (o + b) 0) (up_from 1 8); delay = get_or w (o + 9) 0; error = eqb (get_or w (o + 10) 0) 1 }

-- the words from one place to below another
abbrev pub stretch : List ℕ → ℕ → ℕ → List ℕ
stretch w from end = rows_in (λ j. get_or w j 0) from (end - from)

-- `well_formed` of the state in words, by what of the model it is judged by: each buffer, and those past the count
abbrev pub all_well : List ℕ → List ℕ → Bool
all_well types w = every (well_buffer types) (buffers_in w)

abbrev pub rest_unused : ℕ → List ℕ → Bool
rest_unused buffers w = every is_unused (drop buffers (buffers_in w))

abbrev pub well_in : List ℕ → ℕ → List ℕ → Bool
well_in types buffers w = all_well types w && rest_unused buffers w

pub well-in : (m : Model) (w : List ℕ) (clock : ℕ) → well_formed m (state_in w clock) ≡ well_in m.types m.buffers w
unfolding well_formed
well-in m w clock = refl
