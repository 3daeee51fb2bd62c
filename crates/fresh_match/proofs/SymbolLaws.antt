-- A slot that has the symbol of its term lets the match go on, with the variables as they were.
use Prim.Native.Nat.{ℕ, ◌<◌}
use mathlib.Core.Path.{◌≡◌}
use borrow.Author.Tests.{lt-ltb, eq-eqb}
use Rattle.layout.specs.Rows.{word_term}
use Rattle.match_rule.specs.Run.{Vars, on, term_run}

pub symbol-on : (x term : ℕ) (v : Vars) → term < 4096 → x ≡ term → on v ≡ term_run x (word_term term) v
unfolding term_run
symbol-on x term v h e = rw (lt-ltb term 4096 h, eq-eqb x term e)
