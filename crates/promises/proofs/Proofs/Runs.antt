-- The fresh table stays fresh: through a step, a refresh, and so any chain of calls.
use Rattle.std.specs.Prelude.{◌≡◌, refl, true, List, ℕ}
use Rattle.std.proofs.Common.{ap, ◌∙◌, inl}
use Rattle.std.proofs.Math.Option.{Option, none, some}
use Rattle.meaning.specs.declared.State.{State}
use Rattle.meaning.specs.Model.{Model, Chunk}
use Rattle.meaning.specs.Read.{read_got}
use Rattle.meaning.specs.Image.{decode}
use Rattle.meaning.specs.Match.{fresh_table}
use Rattle.meaning.specs.Choice.{utilities}
use Rattle.meaning.specs.Step.{Event, step_made, step_of}
use Rattle.meaning.specs.Learning.{knowing}
use Rattle.meaning.specs.Refresh.{refresh}
use Rattle.promises.specs.Words.{Reached}
use Rattle.promises.proofs.Proofs.Marks.{made-marks, refresh-fresh}
use Rattle.promises.proofs.Proofs.Chains.{chain-keeps}

-- a made step's refresh of the fresh table is fresh
pub step-fresh : (m : Model) (s : State) (table : List ℕ) → table ≡ fresh_table m.rules s → (e : Event) (s' : State) (mark : ℕ) → step_of m s table ≡ step_made e s' mark
    → refresh m.rules s' mark table ≡ fresh_table m.rules s'
step-fresh m s table f e s' mark q =
    ap (refresh m.rules s' mark) f ∙ refresh-fresh m.rules s s' mark (made-marks m m.facts (utilities m.rules) s table e s' mark q)

-- and so it is whatever is known besides the image's facts
pub known-step-fresh : (m : Model) (store : Option (List Chunk)) (s : State) (table : List ℕ) → table ≡ fresh_table m.rules s → (e : Event) (s' : State) (mark : ℕ)
    → step_of (knowing m store) s table ≡ step_made e s' mark → refresh m.rules s' mark table ≡ fresh_table m.rules s'
known-step-fresh m none s table f e s' mark q = step-fresh m s table f e s' mark q
known-step-fresh m (some cs) s table f e s' mark q = step-fresh (knowing m (some cs)) s table f e s' mark q

pub chain-fresh : (image : List ℕ) (m : Model) (at : ℕ) → decode image ≡ read_got m at → {s : State} {table : List ℕ} → Reached image s table → table ≡ fresh_table m.rules s
chain-fresh image m at d r =
    chain-keeps m (λ s table. table ≡ fresh_table m.rules s) (λ store. true ≡ true)
    (λ s table store f g e s' mark q. (known-step-fresh m store s table f e s' mark q, refl)) refl (λ lent g. refl)
    (λ s s' mark table f given same. ap (refresh m.rules s' mark) f ∙ refresh-fresh m.rules s s' mark (λ b h. inl (same b h))) image at d r
