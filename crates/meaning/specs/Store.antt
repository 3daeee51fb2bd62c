-- The store's words (request 2026-05): "the count, then nine words a place (type, eight slots)".
use Rattle.std.specs.Prelude.{if◌then◌else◌, Bool, true, ◌&&◌, List, [], ◌∷◌, ◌++◌, map, ℕ, ◌+◌, ◌*◌, eqb, ltb, leb, length, get_or, take, drop}
use Rattle.std.proofs.Math.Option.{Option, none, some}
use Rattle.meaning.specs.Base.{every, up_from, bit}
use Rattle.meaning.specs.Model.{Chunk}
use Rattle.meaning.specs.State.{well_buffer, opens}

-- what a word says is lent, of the words beside it: "1: a store". "What is not lent is neither read nor written, whatever its length."
abbrev pub lent_by : ℕ → List ℕ → Option (List ℕ)
lent_by lent words = if bit lent 0 then some words else none

-- place i
abbrev pub place_in : List ℕ → ℕ → Chunk
place_in words i = record { isa = get_or words (9 * i + 1) 0; slots = map (λ b. get_or words (9 * i + 2 + b) 0) (up_from 0 8) }

-- the chunks below the count
unfoldable pub store_in : List ℕ → List Chunk
store_in words = map (place_in words) (up_from 0 (get_or words 0 0))

-- a fact that the image could hold: its type is 1 to T, "values are at most 4,095, slots past the type's count are 0"
abbrev pub holdable : List ℕ → Chunk → Bool
holdable types c = ltb 0 c.isa && well_buffer types (opens c)

-- not "15, not 256 places, a count over 256 or a fact that the image could not hold"; nothing is asked of what is not lent
unfoldable pub store_fits : List ℕ → Option (List ℕ) → Bool
store_fits types none = true
store_fits types (some words) = eqb (length words) 2305 && leb (get_or words 0 0) 256 && every (holdable types) (store_in words)

-- the store that is lent in words
abbrev pub store_of : Option (List ℕ) → Option (List Chunk)
store_of none = none
store_of (some words) = some (store_in words)

-- a place in words
abbrev pub place_words : Chunk → List ℕ
place_words c = c.isa ∷ c.slots

unfoldable pub places_words : List Chunk → List ℕ
places_words [] = []
places_words (c ∷ cs) = place_words c ++ places_words cs

-- the words as they are left: where no store is, as they were; else the count, the chunks in their places, and the places past them as they were
unfoldable pub store_left : List ℕ → Option (List Chunk) → List ℕ
store_left words none = words
store_left words (some store) = (length store ∷ places_words store) ++ drop (9 * length store + 1) words
