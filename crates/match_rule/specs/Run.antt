-- The match as the code goes: test by test, slot by slot, with the variables bound so far; and then the queries.
use Rattle.std.specs.Prelude.{if◌then◌else◌, ℕ, List, [], ◌∷◌, get_or, set, replicate, eqb}
use Rattle.meaning.specs.declared.Buffer.{Buffer}
use Rattle.meaning.specs.declared.State.{State}
use Rattle.meaning.specs.Model.{Term, symbol, variable, Named, Test, Query}
use Rattle.meaning.specs.State.{nothing}
use Rattle.meaning.specs.Match.{queries_hold}

-- which of eight variables are bound (1) or not (0), and their values
pub record Vars : Type 0 where
  pub bound : List ℕ
  pub values : List ℕ

abbrev pub no_vars : Vars
no_vars = record { bound = replicate 8 0; values = replicate 8 0 }

abbrev pub bind : ℕ → ℕ → Vars → Vars
bind k x v = record { bound = set v.bound k 1; values = set v.values k x }

-- given up, or going on with variables
pub data Run : Type 0 where
  stop : Run
  on : Vars → Run

abbrev pub then_on : Run → (Vars → Run) → Run
then_on stop f = stop
then_on (on v) f = f v

-- a term against a value: nil is looked at where a variable is bound, and no other place of it can then be nil
unfoldable pub term_run : ℕ → Term → Vars → Run
term_run x (symbol t) v = if eqb x t then on v else stop
term_run x (variable k) v =
    if eqb (get_or v.bound k 0) 0 then (if eqb x 0 then stop else on (bind k x v)) else (if eqb (get_or v.values k 0) x then on v else stop)

unfoldable pub terms_run : List ℕ → List Named → Vars → Run
terms_run xs [] v = on v
terms_run xs (n ∷ ns) v = then_on (term_run (get_or xs n.slot 0) n.term v) (λ w. terms_run xs ns w)

unfoldable pub test_run : Buffer → Test → Vars → Run
test_run b t v = if eqb b.delay 0 then (if eqb b.isa t.isa then terms_run b.slots t.named v else stop) else stop

unfoldable pub tests_run : List Buffer → List Test → Vars → Run
tests_run bs [] v = on v
tests_run bs (t ∷ ts) v = then_on (test_run (get_or bs t.buffer nothing) t v) (λ w. tests_run bs ts w)

-- tests, and then queries: "For a match queries must hold too."
abbrev pub rule_run : State → List Test → List Query → Run
rule_run s ts qs = then_on (tests_run s.buffers ts no_vars) (λ v. if queries_hold qs s then on v else stop)

-- the nine words that a run ends with
abbrev pub entry_words : Run → List ℕ
entry_words stop = replicate 9 0
entry_words (on v) = 1 ∷ v.values
