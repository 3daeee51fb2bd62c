-- "A match": the entries of the table.
use Rattle.std.specs.Prelude.{if◌then◌else◌, Bool, true, ◌&&◌, not, List, [], ◌∷◌, ◌++◌, map, ℕ, eqb, get_or, replicate}
use Rattle.meaning.specs.declared.Buffer.{Buffer}
use Rattle.meaning.specs.declared.State.{State}
use Rattle.meaning.specs.Base.{every, up_from}
use Rattle.meaning.specs.Model.{Rule, Test, Query, Ask, busy, free, error, Named, Term, symbol, variable}
use Rattle.meaning.specs.State.{buffer_of, visible}
use Rattle.meaning.specs.Image.{is_variable}

-- a named slot of a test: its term, and the value that stands there
pub record Place : Type 0 where
  pub term : Term
  pub value : ℕ

abbrev pub place : Buffer → Named → Place
place b n = record { term = n.term; value = get_or b.slots n.slot 0 }

-- all named slots of a rule's tests, in their order
unfoldable pub places : List Test → State → List Place
places [] s = []
places (t ∷ ts) s = map (place (buffer_of s t.buffer)) t.named ++ places ts s

-- the value of a variable is the one at its first place, "0 where unused"
unfoldable pub value_in : List Place → ℕ → ℕ
value_in [] v = 0
value_in (p ∷ ps) v = if is_variable v p.term then p.value else value_in ps v

-- what a term stands for
abbrev pub term_in : List Place → Term → ℕ
term_in ps (symbol x) = x
term_in ps (variable v) = value_in ps v

-- "a slot test with a variable fails when the slot holds nil; a constant nil still tests for an empty slot"
abbrev pub takes : Term → ℕ → Bool
takes (symbol x) value = true
takes (variable v) value = not (eqb value 0)

-- "each named slot's value equals the term; a variable has one value throughout the rule"
abbrev pub agrees : List Place → Place → Bool
agrees ps p = takes p.term p.value && eqb p.value (term_in ps p.term)

abbrev pub agreed : List Place → Bool
agreed ps = every (agrees ps) ps

-- "the buffer is visible, its type is the test's". "A test of type 0 holds on a visible empty buffer."
abbrev pub shows : Test → Buffer → Bool
shows t b = visible b && eqb b.isa t.isa

-- "A rule matches when all its tests hold"
abbrev pub tests_hold : List Test → State → Bool
tests_hold ts s = every (λ t. shows t (buffer_of s t.buffer)) ts && agreed (places ts s)

-- "0 busy (delay above 0), 1 free (delay 0), 2 error (visible, flag set)"
abbrev pub answers : Ask → Buffer → Bool
answers busy b = not (visible b)
answers free b = visible b
answers error b = visible b && b.error

abbrev pub queries_hold : List Query → State → Bool
queries_hold qs s = every (λ q. answers q.asks (buffer_of s q.buffer)) qs

-- "For a match queries must hold too."
unfoldable pub matches : Rule → State → Bool
matches r s = tests_hold r.tests s && queries_hold r.queries s

-- "An entry is 1 and then the values of variables 0 to 7 (0 where unused) if the rule matches, nine zeros if it does not."
unfoldable pub entry_of : Rule → State → List ℕ
entry_of r s = if matches r s then 1 ∷ map (value_in (places r.tests s)) (up_from 0 8) else replicate 9 0

-- "The fresh table is the entry of each rule under this definition"
unfoldable pub fresh_table : List Rule → State → List ℕ
fresh_table [] s = []
fresh_table (r ∷ rs) s = entry_of r s ++ fresh_table rs s
