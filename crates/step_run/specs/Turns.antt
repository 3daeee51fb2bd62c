-- Laws of the engine with a table: where no step is left to make, and what stays of what it keeps while a memory grows.
use Prim.Native.Nat.{ℕ, ◌*◌}
use mathlib.Core.Path.{◌≡◌, refl, sym, ap, ◌∙◌}
use mathlib.Core.List.{List}
use native.Mathlib.Omega.{arith}
use lib.ListN.{length}
use Rattle.meaning.specs.Model.{Model, Fact}
use Rattle.meaning.specs.Run.{Going, run_from, ends}
use Rattle.layout.specs.declared.Plan.{Plan}
use Rattle.layout.specs.Plans.{heads_on, rows_on, order_on, Planned}
use Rattle.layout.specs.Growth.{Extended}
use Rattle.layout.proofs.KeptLaws.{drop-alike, follows}
use Rattle.step_once.specs.Choosing.{RankedOn}
use Rattle.step_run.specs.Aided.{RestingOn}

pub run-done : (m : Model) (g : Going) → run_from m 0 g ≡ ends 0 g
unfolding run_from
run-done m g = refl

-- ---- while a memory grows, the rules' heads, rows and order stand as they stood

module _ {p p' : Plan} {tape tape' : List ℕ} {new : List Fact} (planned : Planned p tape) (grown : Extended p tape p' tape' new) where
  rules-same : p'.rules ≡ p.rules
  rules-same = ap (λ (q : Plan). q.rules) grown.plan

  heads-same : heads_on p' tape' ≡ heads_on p tape
  heads-same = ap (λ (q : Plan). heads_on q tape') grown.plan ∙ grown.above

  rows_same : rows_on p' tape' ≡ rows_on p tape
  rows_same = let f = follows planned in ap (λ (q : Plan). rows_on q tape') grown.plan ∙ drop-alike p.heads p.rows tape tape' (omega arith) grown.above

  order_same : order_on p' tape' ≡ order_on p tape
  order_same = let f = follows planned in ap (λ (q : Plan). order_on q tape') grown.plan ∙ drop-alike p.heads p.order tape tape' (omega arith) grown.above

  ranked-grown : RankedOn p tape → RankedOn p' tape'
  ranked-grown ranked = rw (heads-same, order_same, rules-same) ranked

  resting-grown : (state table sets : List ℕ) → RestingOn p tape state table sets → RestingOn p' tape' state table sets
  resting-grown state table sets resting = rw (heads-same, rows_same, order_same, rules-same) resting

  still-ready : (state table sets : List ℕ) → (length table ≡ 9 * p.rules) × RankedOn p tape × RestingOn p tape state table sets
      → (length table ≡ 9 * p'.rules) × RankedOn p' tape' × RestingOn p' tape' state table sets
  still-ready state table sets ready = (ready.0 ∙ ap (λ (n : ℕ). 9 * n) (sym rules-same), ranked-grown ready.1, resting-grown state table sets ready.2)

pub ready-grown : (p p' : Plan) (tape tape' : List ℕ) (new : List Fact) (state table sets : List ℕ) → Planned p tape → Extended p tape p' tape' new
    → (length table ≡ 9 * p.rules) × RankedOn p tape × RestingOn p tape state table sets
    → (length table ≡ 9 * p'.rules) × RankedOn p' tape' × RestingOn p' tape' state table sets
ready-grown p p' tape tape' new state table sets planned grown ready = still-ready planned grown state table sets ready
