-- What joins a store is cleared from a buffer: what holds of all buffers' chunks holds of it.
use Rattle.std.specs.Prelude.{if◌then◌else◌, ◌≡◌, Bool, ◌&&◌, ℕ, ◌+◌}
use Rattle.std.proofs.Math.Path.{refl}
use Rattle.std.proofs.Math.Bool.{true, false, not}
use mathlib.Core.List.{List, [], ◌∷◌, ◌++◌}
use Rattle.meaning.specs.declared.Buffer.{Buffer}
use Rattle.meaning.specs.declared.State.{State}
use Rattle.meaning.specs.Base.{every, any_of, admit}
use Rattle.meaning.specs.Model.{Model, Action, Chunk}
use Rattle.meaning.specs.State.{visible, is_nil}
use Rattle.meaning.specs.Fire.{deed_on}
use Rattle.meaning.specs.Step.{Event, event_fired, event_waited}
use Rattle.meaning.specs.Learning.{chunks_of, chunk_of, is_clear, cleared, equal, joining, actions_of, adds}
use Rattle.laws.specs.BaseLaws.{and_left, and_right}
use Rattle.promises.proofs.Proofs.Decoded.{and-true}

module _ (p : Chunk → Bool) where
  every-cleared : (as' : List Action) (i : ℕ) (bs : List Buffer) → every (λ b. p (chunk_of b)) bs ≡ true → every p (cleared as' i bs) ≡ true
  unfolding cleared
  every-cleared as' i [] e = refl
  every-cleared as' i (b ∷ bs) e = by (is_clear (deed_on as' i) && (visible b && not (is_nil b))) (every-cleared as' (i + 1) bs (and_right (p (chunk_of b)) (every (λ x. p (chunk_of x)) bs) e))
    where
      by : (t : Bool) → every p (cleared as' (i + 1) bs) ≡ true → every p (admit t (chunk_of b) (cleared as' (i + 1) bs)) ≡ true
      by true h = and-true (p (chunk_of b)) (every p (cleared as' (i + 1) bs)) (and_left (p (chunk_of b)) (every (λ x. p (chunk_of x)) bs) e) h
      by false h = h

  every-joining : (known cs : List Chunk) → every p cs ≡ true → every p (joining known cs) ≡ true
  unfolding joining
  every-joining known [] e = refl
  every-joining known (c ∷ cs) e =
      by (any_of (equal c) known) (every-joining known cs (and_right (p c) (every p cs) e)) (every-joining (known ++ (c ∷ [])) cs (and_right (p c) (every p cs) e))
    where
      by : (t : Bool) → every p (joining known cs) ≡ true → every p (joining (known ++ (c ∷ [])) cs) ≡ true
          → every p (if t then joining known cs else (c ∷ joining (known ++ (c ∷ [])) cs)) ≡ true
      by true h k = h
      by false h k = and-true (p c) (every p (joining (known ++ (c ∷ [])) cs)) (and_left (p c) (every p cs) e) k

  pub every-adds : (m : Model) (s : State) (e : Event) → every (λ b. p (chunk_of b)) s.buffers ≡ true → every p (adds m s e) ≡ true
  every-adds m s (event_fired k) h =
      every-joining (chunks_of m.facts) (cleared (actions_of m.rules k) 0 s.buffers) (every-cleared (actions_of m.rules k) 0 s.buffers h)
  every-adds m s (event_waited ms) h = refl
