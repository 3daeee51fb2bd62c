-- Demand 3, the chain of calls: over one image the table is always the fresh one, and the state always well formed.
use Rattle.std.specs.Prelude.{◌≡◌, true, List, ℕ}
use Rattle.meaning.specs.declared.State.{State}
use Rattle.meaning.specs.Model.{Model}
use Rattle.meaning.specs.State.{well_formed}
use Rattle.meaning.specs.Read.{read_got}
use Rattle.meaning.specs.Image.{decode}
use Rattle.meaning.specs.Match.{fresh_table}
use Rattle.promises.specs.Words.{Machine, Reached}
use Rattle.promises.proofs.Proofs.Runs.{chain-fresh}
use Rattle.promises.proofs.Proofs.Machines.{chain-well, chain-sound}

-- After an accepted opening, and any runs, each with any words lent to it or none, refreshes and changes of buffers by the caller that are refreshed with their mark,
-- each handed what was left before it, refused calls too, the table is the entry of each rule as a match made now would find it.
pub reached-fresh : (image : List ℕ) (m : Model) (at : ℕ) → decode image ≡ read_got m at
    → {s : State} {table : List ℕ} → Reached image s table → table ≡ fresh_table m.rules s
reached-fresh image m at d r = chain-fresh image m at d r

-- And the state is well formed, so that number 6 is never met on the way.
pub reached-well : (image : List ℕ) (m : Model) (at : ℕ) → decode image ≡ read_got m at
    → {s : State} {table : List ℕ} → Reached image s table → well_formed m s ≡ true
reached-well image m at d r = chain-well image m at d r

-- It is a state of the machine throughout: eight buffers of eight slots, each word in its 16 bits, and the clock in its 32.
pub reached-machine : (image : List ℕ) (m : Model) (at : ℕ) → decode image ≡ read_got m at
    → {s : State} {table : List ℕ} → Reached image s table → Machine s
reached-machine image m at d r = (chain-sound image m at d r).machine
