-- A run makes no more steps than asked.
use Rattle.std.specs.Prelude.{ℕ, zero, suc, ◌≤◌, length}
use Rattle.std.proofs.Common.{arith}
use Rattle.meaning.specs.Model.{Model}
use Rattle.meaning.specs.Step.{Step, step_stopped, step_made}
use Rattle.meaning.specs.Learning.{store_after, step_with}
use Rattle.meaning.specs.Refresh.{refresh}
use Rattle.meaning.specs.Run.{Going, going, go_on, run_from}

pub run-most : (m : Model) (n : ℕ) (g : Going) → length (run_from m n g).events ≤ n
unfolding run_from
run-most m zero g = omega arith
run-most m (suc n) g = by (λ g'. run-most m n g') (step_with m g.store g.state g.table)
  where
    by : ((g' : Going) → length (run_from m n g').events ≤ n) → (st : Step) → length (go_on m g (λ g'. run_from m n g') st).events ≤ suc n
    by ih (step_stopped k) = omega arith
    by ih (step_made e s' mark) = omega (arith, ih (going s' (refresh m.rules s' mark g.table) (store_after m g.state e g.store)))
