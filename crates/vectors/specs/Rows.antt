-- A case as a row: what the definitions give for a call, and what is said, each as words in the order of the answer's line.
use Rattle.std.specs.Prelude.{if◌then◌else◌, List, [], ◌∷◌, ◌++◌, ℕ, zero, suc, ◌/◌, ◌%◌, ◌^◌, eqb, get_or, take, drop, replicate}
use Rattle.meaning.specs.declared.Buffer.{Buffer}
use Rattle.meaning.specs.declared.State.{State}
use Rattle.meaning.specs.Step.{event_fired, event_waited}
use Rattle.meaning.specs.Calls.{Opened, open_of, Ran, WithStore, run_lent, Refreshed, refresh_of}
use Rattle.meaning.specs.Fresh.{FreshRan, fresh_lent}
use Rattle.meaning.specs.Print.{Line, stepped, end, printed}
use Rattle.meaning.specs.Examples.{Row}

-- ---- how a row is written

-- n bytes, as one number in hex whose first digits are the first byte
abbrev pub bytes : ℕ → ℕ → List ℕ
bytes zero x = []
bytes (suc n) x = (x / 256 ^ n % 256) ∷ bytes n x

-- n zeros, and the words after them
infixr 67 ◌zeros◌
abbrev pub ◌zeros◌ : ℕ → List ℕ → List ℕ
◌zeros◌ n ws = replicate n 0 ++ ws

-- ---- a state and its words: the clock, then eleven for each of eight buffers, its type, its slots, its delay and its error flag, 1 where it is set

abbrev buffers_of : ℕ → List ℕ → List Buffer
buffers_of zero ws = []
buffers_of (suc n) ws = record { isa = get_or ws 0 0; slots = take 8 (drop 1 ws); delay = get_or ws 9 0; error = eqb (get_or ws 10 0) 1 } ∷ buffers_of n (drop 11 ws)

abbrev state_of : List ℕ → State
state_of ws = record { buffers = buffers_of 8 (drop 1 ws); clock = get_or ws 0 0 }

abbrev buffer_words : List Buffer → List ℕ
buffer_words [] = []
buffer_words (b ∷ bs) = b.isa ∷ b.slots ++ (b.delay ∷ (if b.error then 1 else 0) ∷ buffer_words bs)

abbrev state_words : State → List ℕ
state_words s = s.clock ∷ buffer_words s.buffers

-- ---- answers as words: every part of them

abbrev opened : Opened → List ℕ
opened o = o.number ∷ o.position ∷ state_words o.state ++ o.table

abbrev ran : Ran → List ℕ
ran r = r.number ∷ r.position ∷ state_words r.state ++ r.table ++ (r.made ∷ [])

abbrev ran_fresh : FreshRan → List ℕ
ran_fresh r = r.number ∷ r.position ∷ state_words r.state ++ (r.made ∷ [])

-- and the words of the store after them, as they are left
abbrev left : {A : Type 0} → (A → List ℕ) → WithStore A → List ℕ
left words w = words w.answer ++ w.store

abbrev refreshed : Refreshed → List ℕ
refreshed r = r.number ∷ r.position ∷ r.count ∷ r.table

-- of a line: 1, the clock and the rule of a firing; 2, the clock and the ms of a wait; 3, the number and the steps made at the end
abbrev output : List Line → List ℕ
output [] = []
output (stepped clock (event_fired k) ∷ ls) = 1 ∷ clock ∷ k ∷ output ls
output (stepped clock (event_waited ms) ∷ ls) = 2 ∷ clock ∷ ms ∷ output ls
output (end number made ∷ ls) = 3 ∷ number ∷ made ∷ output ls

-- ---- the five calls, with what is said; both runs are lent a store, which 1 says

abbrev pub opens : List ℕ → List ℕ → List ℕ → Row
opens image table said = record { given = opened (open_of image table); said = said }

abbrev pub runs : List ℕ → List ℕ → List ℕ → ℕ → List ℕ → List ℕ → Row
runs image state table steps store said = record { given = left ran (run_lent image (state_of state) table steps 1 store); said = said }

abbrev pub freshes : List ℕ → List ℕ → ℕ → List ℕ → List ℕ → Row
freshes image state steps store said = record { given = left ran_fresh (fresh_lent image (state_of state) steps 1 store); said = said }

abbrev pub refreshes : List ℕ → List ℕ → ℕ → List ℕ → List ℕ → Row
refreshes image state mark table said = record { given = refreshed (refresh_of image (state_of state) mark table); said = said }

abbrev pub prints : List ℕ → List ℕ → Row
prints image said = record { given = output (printed image); said = said }
