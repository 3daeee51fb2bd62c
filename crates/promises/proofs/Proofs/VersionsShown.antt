-- No rule without queries sees an error flag: what 01 said of a state without flags is what is said now of the state with them, of matches, refreshed tables, marks, what is
-- learned, what fires and what waits.
use Rattle.std.specs.Prelude.{◌≡◌, ℕ}
use Rattle.std.proofs.Math.Path.{refl, ap}
use Rattle.std.proofs.Math.Bool.{and-true, or-false}
use mathlib.Core.List.{List, [], ◌∷◌, map}
use Rattle.std.proofs.Math.ListN.{get_or-map}
use Rattle.meaning.specs.declared.Buffer.{Buffer}
use Rattle.meaning.specs.declared.State.{State}
use Rattle.meaning.specs.Base.{every}
use Rattle.meaning.specs.Model.{Rule, Test}
use Rattle.meaning.specs.State.{nothing, buffer_of}
use Rattle.meaning.specs.Match.{places, shows, matches}
use Rattle.meaning.specs.Refresh.{tests_marked}
use Rattle.promises.specs.Before.{matches01, tests_marked01, unflag, unflagged}

-- ---- a rule without queries

pub matches-before : (r : Rule) → r.queries ≡ [] → (s : State) → matches r s ≡ matches01 r s
unfolding matches
matches-before r bare s = rw bare (and-true (matches01 r s))

pub marked-before : (r : Rule) → r.queries ≡ [] → (mark : ℕ) → tests_marked mark r ≡ tests_marked01 mark r
marked-before r bare mark = rw bare (or-false (tests_marked01 mark r))

-- ---- the flags left out once are left out

pub map-twice : (bs : List Buffer) → map unflag (map unflag bs) ≡ map unflag bs
map-twice [] = refl
map-twice (b ∷ bs) = ap (λ (xs : List Buffer). unflag b ∷ xs) (map-twice bs)

pub unflagged-twice : (s : State) → unflagged (unflagged s) ≡ unflagged s
unflagged-twice s = ap (λ (bs : List Buffer). record { buffers = bs; clock = s.clock }) (map-twice s.buffers)

-- ---- what a state shows with its flags left out: the same as with them

pub buffer-unflagged : (s : State) (b : ℕ) → buffer_of (unflagged s) b ≡ unflag (buffer_of s b)
buffer-unflagged s b = get_or-map unflag s.buffers b nothing

pub places-unflagged : (ts : List Test) (s : State) → places ts (unflagged s) ≡ places ts s
unfolding places
places-unflagged [] s = refl
places-unflagged (t ∷ ts) s = rw (buffer-unflagged s t.buffer, places-unflagged ts s) refl

-- which tests find their chunk:
-- a flag beside it is not looked at
pub shown-unflagged : (ts : List Test) (s : State) → every (λ t. shows t (buffer_of (unflagged s) t.buffer)) ts ≡ every (λ t. shows t (buffer_of s t.buffer)) ts
shown-unflagged [] s = refl
shown-unflagged (t ∷ ts) s = rw (buffer-unflagged s t.buffer, shown-unflagged ts s) refl
