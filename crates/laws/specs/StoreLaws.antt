-- A run's store is what it was, and after that what was learned; where none is lent, there is none after it.
use Rattle.std.specs.Prelude.{ℕ, zero, suc, ◌≡◌, refl, List, [], ◌∷◌, ◌++◌}
use Rattle.std.proofs.Common.{sym, ap, ◌∙◌, append-nil, append_assoc}
use Rattle.std.proofs.Math.Option.{Option, none, some}
use Rattle.meaning.specs.declared.State.{State}
use Rattle.meaning.specs.Model.{Model, Chunk}
use Rattle.meaning.specs.Step.{Event, Step, step_stopped, step_made}
use Rattle.meaning.specs.Learning.{knowing, adds, store_after, step_with}
use Rattle.meaning.specs.Refresh.{refresh}
use Rattle.meaning.specs.Run.{Going, going, go_on, run_from}
use Rattle.meaning.specs.Fresh.{Move, stays, moves, Moving, moving, move_with, move_on, fresh_from}

-- a store with more after it
abbrev pub extend : Option (List Chunk) → List Chunk → Option (List Chunk)
extend none more = none
extend (some cs) more = some (cs ++ more)

extend-none : (store : Option (List Chunk)) → store ≡ extend store []
extend-none none = refl
extend-none (some cs) = ap some (sym (append-nil cs))

extend-two : (store : Option (List Chunk)) (a b : List Chunk) → extend (extend store a) b ≡ extend store (a ++ b)
extend-two none a b = refl
extend-two (some cs) a b = ap some (append_assoc cs a b)

-- a store that has grown from another
abbrev pub Grows : Option (List Chunk) → Option (List Chunk) → Type 0
Grows store left = (more : List Chunk) × (left ≡ extend store more)

grows_none : (store : Option (List Chunk)) → Grows store store
grows_none store = ([], extend-none store)

grows-two : (a b c : Option (List Chunk)) → Grows a b → Grows b c → Grows a c
grows-two a b c (x, e) (y, g) = (x ++ y, g ∙ ap (λ (s : Option (List Chunk)). extend s y) e ∙ extend-two a x y)

after-grows : (m : Model) (s : State) (e : Event) (store : Option (List Chunk)) → Grows store (store_after m s e store)
after-grows m s e none = ([], refl)
after-grows m s e (some cs) = (adds (knowing m (some cs)) s e, refl)

pub run-grows : (m : Model) (n : ℕ) (g : Going) → Grows g.store (run_from m n g).left.store
unfolding run_from
run-grows m zero g = grows_none g.store
run-grows m (suc n) g = by (λ g'. run-grows m n g') (step_with m g.store g.state g.table)
  where
    by : ((g' : Going) → Grows g'.store (run_from m n g').left.store) → (st : Step) → Grows g.store (go_on m g (λ g'. run_from m n g') st).left.store
    by ih (step_stopped k) = grows_none g.store
    by ih (step_made e s' mark) =
        let after = store_after m g.state e g.store in
        grows-two g.store after _ (after-grows m g.state e g.store) (ih (going s' (refresh m.rules s' mark g.table) after))

pub fresh-grows : (m : Model) (n : ℕ) (g : Moving) → Grows g.store (fresh_from m n g).left.store
unfolding fresh_from
fresh-grows m zero g = grows_none g.store
fresh-grows m (suc n) g = by (λ g'. fresh-grows m n g') (move_with m g.store g.state)
  where
    by : ((g' : Moving) → Grows g'.store (fresh_from m n g').left.store) → (st : Move) → Grows g.store (move_on m g (λ g'. fresh_from m n g') st).left.store
    by ih (stays k) = grows_none g.store
    by ih (moves e s') =
        let after = store_after m g.state e g.store in
        grows-two g.store after _ (after-grows m g.state e g.store) (ih (moving s' after))
