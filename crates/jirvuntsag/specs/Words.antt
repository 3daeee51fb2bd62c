-- The state as C hands it in and takes it back: 89 words, the clock and then for each of the eight buffers its type, eight slots, delay and error flag.
use Rattle.std.specs.Prelude.{if◌then◌else◌, ℕ, ◌+◌, ◌*◌, Bool, false, ◌&&◌, List, [], ◌∷◌, ◌++◌, leb, get_or, drop, replicate, Option, Some, None}
use Rattle.meaning.specs.declared.Buffer.{Buffer}
use Rattle.meaning.specs.declared.State.{State}
use Rattle.meaning.specs.Base.{every}
use Rattle.layout.specs.Rows.{rows_in}
use Rattle.layout.specs.StateWords.{state_in}
use Rattle.layout_state.specs.Words.{flag_word}

-- the state that 89 words hold
abbrev pub state_of : List ℕ → State
state_of w = state_in (drop 1 w) (get_or w 0 0)

-- the words of a state
abbrev pub buffer_words : Buffer → List ℕ
buffer_words b = b.isa ∷ b.slots ++ (b.delay ∷ flag_word b.error ∷ [])

abbrev pub buffers_words : List Buffer → List ℕ
buffers_words [] = []
buffers_words (b ∷ bs) = buffer_words b ++ buffers_words bs

unfoldable pub words_of : State → List ℕ
words_of s = s.clock ∷ buffers_words s.buffers

-- a type, a slot and a delay have 16 bits: no word but the clock is larger
unfoldable pub narrows : List ℕ → Bool
narrows w = every (λ v. leb v 65535) (drop 1 w)

-- a flag is 0 or 1: a word over 1 makes the state not well formed, as one that is too large for its field does
abbrev pub flag_at : List ℕ → ℕ → ℕ
flag_at w b = get_or w (11 * b + 11) 0

unfoldable pub flags_fit : List ℕ → Bool
flags_fit w = every (λ v. leb v 1) (rows_in (flag_at w) 0 8)

abbrev pub fits : List ℕ → Bool
fits w = narrows w && flags_fit w

-- the words past the clock, if each has room in 16 bits; and the state, if each word is small enough for its field
abbrev pub narrowed : List ℕ → Option (List ℕ)
narrowed w = if narrows w then Some (drop 1 w) else None

abbrev pub held : List ℕ → Option State
held w = if fits w then Some (state_of w) else None

-- a state that is well formed in no model, since values are at most 4,095
abbrev pub unfit_buffer : Buffer
unfit_buffer = record { isa = 0; slots = replicate 8 65535; delay = 0; error = false }

abbrev pub unfit_state : State
unfit_state = record { buffers = replicate 8 unfit_buffer; clock = 0 }

-- the state to run from: the words' own, or the unfit one if a word is too large
abbrev pub given_by : List ℕ → State
given_by w = if fits w then state_of w else unfit_state
