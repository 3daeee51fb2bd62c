-- A state of eight buffers: an opening has them, and a step keeps them.
use Rattle.std.specs.Prelude.{◌≡◌, List, map, ℕ, ◌-◌, length, replicate}
use Rattle.std.proofs.Common.{sym, ap, ◌∙◌, arith, length-append}
use Rattle.std.proofs.lemmas.List.{length-map, length-replicate}
use Rattle.meaning.specs.declared.State.{State}
use Rattle.meaning.specs.Model.{Model, Rule, Fact}
use Rattle.meaning.specs.State.{nil_after, opens}
use Rattle.meaning.specs.Choice.{utilities}
use Rattle.meaning.specs.Fire.{later, after, deed_on, fire}
use Rattle.meaning.specs.Wait.{wait}
use Rattle.meaning.specs.Step.{Event, event_fired, event_waited, step_made, step_of}
use Rattle.meaning.specs.Calls.{open_state}
use Rattle.promises.proofs.Proofs.Decoded.{Decoded}
use Rattle.laws.specs.MarkLaws.{length-change}
use Rattle.promises.proofs.Proofs.Steps.{FiredBy, WaitedBy, step-fired, step-waited}

abbrev pub Eight : State → Type 0
Eight s = length s.buffers ≡ 8

pub open-eight : (m : Model) → Decoded m → Eight (open_state m)
unfolding open_state
open-eight m d =
    length-append (map opens m.opening) (replicate (8 - m.buffers) (nil_after 0))
    ∙ omega (arith, length-map m.opening opens, length-replicate (8 - m.buffers) (nil_after 0), d.opens_all, d.few)

fire-eight : (failure : ℕ) (memory : List Fact) (r : Rule) (entry : List ℕ) (s : State) → length (fire failure memory r entry s).buffers ≡ length s.buffers
unfolding fire
fire-eight failure memory r entry s = length-change (λ i b. after failure memory entry b (deed_on r.actions i)) 0 s.buffers

wait-eight : (ms : ℕ) (s : State) → length (wait ms s).buffers ≡ length s.buffers
unfolding wait
wait-eight ms s = length-change (λ i b. later ms b) 0 s.buffers

pub step-eight : (m : Model) (s : State) (table : List ℕ) → Eight s → (e : Event) (s' : State) (mark : ℕ) → step_of m s table ≡ step_made e s' mark → Eight s'
step-eight m s table h (event_fired k) s' mark q =
    let f : FiredBy m m.facts (utilities m.rules) s table k s' mark = step-fired m m.facts (utilities m.rules) s table k s' mark q in
    ap (λ (x : State). length x.buffers) (sym f.state_is) ∙ fire-eight m.failure m.facts f.candidate.rule f.candidate.entry s ∙ h
step-eight m s table h (event_waited ms) s' mark q =
    let f : WaitedBy m (utilities m.rules) s table ms s' mark = step-waited m m.facts (utilities m.rules) s table ms s' mark q in
    ap (λ (x : State). length x.buffers) (sym f.state_is) ∙ wait-eight ms s ∙ h
