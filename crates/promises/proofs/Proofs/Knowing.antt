-- A step with a store is the step of a model that knows what is in it, if there is room for what it learns.
use Rattle.std.specs.Prelude.{if◌then◌else◌, ◌≡◌, refl, true, false, List, ℕ}
use Rattle.std.proofs.Common.{sym}
use Rattle.std.proofs.Math.Option.{Option, none, some}
use Rattle.meaning.specs.declared.State.{State}
use Rattle.meaning.specs.Numbers.{store_full}
use Rattle.meaning.specs.Model.{Model, Chunk}
use Rattle.meaning.specs.Match.{fresh_table}
use Rattle.meaning.specs.Step.{Event, Step, step_stopped, step_made, step_of}
use Rattle.meaning.specs.Learning.{knowing, store_after, overfull, if_room, step_with}
use Rattle.promises.proofs.Proofs.Steps.{no-made}

-- what is known besides alters no rule
pub known-fresh : (m : Model) (store : Option (List Chunk)) (s : State) → fresh_table m.rules s ≡ fresh_table (knowing m store).rules s
known-fresh m none s = refl
known-fresh m (some cs) s = refl

-- with no store it is the step of the model itself
pub none-known : (m : Model) (s : State) (table : List ℕ) → step_with m none s table ≡ step_of m s table
none-known m s table = by (step_of m s table)
  where
    by : (st : Step) → if_room m none s st ≡ st
    by (step_stopped n) = refl
    by (step_made e s' mark) = refl

-- why a step with a store is not made
pub data Unmade (m : Model) (store : Option (List Chunk)) (s : State) (st : Step) : ℕ → Type 0 where
  as-known : {n : ℕ} → st ≡ step_stopped n → Unmade m store s st n
  crowding : {e : Event} {s' : State} {mark : ℕ} → st ≡ step_made e s' mark → overfull (store_after m s e store) ≡ true → Unmade m store s st store_full

module _ (m : Model) (store : Option (List Chunk)) (s : State) where
  room-made : (st : Step) (e : Event) (s' : State) (mark : ℕ) → if_room m store s st ≡ step_made e s' mark → (st ≡ step_made e s' mark) × (overfull (store_after m s e store) ≡ false)
  room-made (step_stopped n) e s' mark q = no-made n e s' mark q
  room-made (step_made f t k) e s' mark q =
      (elim (overfull (store_after m s f store)) as
      (λ b. overfull (store_after m s f store) ≡ b → (if b then step_stopped store_full else (step_made f t k)) ≡ step_made e s' mark
      → (step_made f t k ≡ step_made e s' mark) × (overfull (store_after m s e store) ≡ false)) [
        | true ↦ λ o h. no-made store_full e s' mark h
        | false ↦ λ o h. let i : f ≡ e = cc in (h, rw (← i) o)
      ]) refl q

  room-stopped : (st : Step) (n : ℕ) → if_room m store s st ≡ step_stopped n → Unmade m store s st n
  room-stopped (step_stopped k) n q = as-known q
  room-stopped (step_made f t k) n q =
      (elim (overfull (store_after m s f store)) as
      (λ b. overfull (store_after m s f store) ≡ b → (if b then step_stopped store_full else (step_made f t k)) ≡ step_stopped n → Unmade m store s (step_made f t k) n) [
        | true ↦ λ o h. let i : store_full ≡ n = cc in rw (← i) (crowding refl o)
        | false ↦ λ o h. no-made n f t k (sym h)
      ]) refl q

  module _ (table : List ℕ) where
    -- a step that is made is the step with what is known, and there was room
    pub with-made : (e : Event) (s' : State) (mark : ℕ) → step_with m store s table ≡ step_made e s' mark
        → (step_of (knowing m store) s table ≡ step_made e s' mark) × (overfull (store_after m s e store) ≡ false)
    with-made e s' mark q = room-made (step_of (knowing m store) s table) e s' mark q

    pub with-stopped : (n : ℕ) → step_with m store s table ≡ step_stopped n → Unmade m store s (step_of (knowing m store) s table) n
    with-stopped n q = room-stopped (step_of (knowing m store) s table) n q

    pub made-with : (e : Event) (s' : State) (mark : ℕ) → step_of (knowing m store) s table ≡ step_made e s' mark → overfull (store_after m s e store) ≡ false
        → step_with m store s table ≡ step_made e s' mark
    made-with e s' mark q o = rw (q, o) refl

    pub stopped-with : {n : ℕ} → Unmade m store s (step_of (knowing m store) s table) n → step_with m store s table ≡ step_stopped n
    stopped-with (as-known q) = rw q refl
    stopped-with (crowding q o) = rw (q, o) refl
