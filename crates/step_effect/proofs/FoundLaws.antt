-- What a request makes of its buffer, by what retrieval answers.
use Prim.Native.Nat.{ℕ, ◌+◌, ◌*◌}
use mathlib.Core.Path.{◌≡◌}
use mathlib.Core.List.{List}
use mathlib.Core.Option.{Option}
use lib.ListN.{get_or}
use Rattle.std.specs.Prelude.{Some, None}
use Rattle.std.specs.Prelude as std
use Rattle.meaning.specs.Model.{Fact}
use Rattle.meaning.specs.Retrieval.{retrieved}
use Rattle.layout.specs.Rows.{rows_in}
use Rattle.step_retrieve.specs.Found.{fact_of}
use Rattle.step_wait.specs.Remade.{Remade}
use Rattle.step_effect.specs.Deeds.{chunk_in, nil_in}

module _ {r : std.Option ℕ} (facts : List ℕ) (failure : ℕ) {o : Option Fact} (e : o ≡ fact_of facts r) {w w' : List ℕ} {k : ℕ} where
  pub fact-made : (i : ℕ) → r ≡ Some i → Remade w w' k (chunk_in (get_or facts (11 * i) 0) facts (11 * i + 3) (get_or facts (11 * i + 2) 0) 0) → Remade w w' k (retrieved failure o)
  unfolding rows_in
  fact-made i g m = rw (e, g) m

  pub none_made : r ≡ None → Remade w w' k (nil_in failure 1) → Remade w w' k (retrieved failure o)
  none_made g m = rw (e, g) m
