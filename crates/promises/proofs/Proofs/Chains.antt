-- What an opening has and each made step keeps, every chain of calls keeps.
use Rattle.std.specs.Prelude.{if◌then◌else◌, ◌≡◌, ◌⊎◌, Bool, true, false, List, eqb, leb}
use Rattle.std.proofs.Math.Path.{refl}
use Rattle.std.proofs.Common.{inl, inr, arith}
use Rattle.std.proofs.Math.Option.{Option}
use Prim.Native.Nat.{ℕ, zero, suc, ◌*◌, ◌^◌}
use Rattle.std.proofs.Math.ListN.{length}
use Rattle.meaning.specs.declared.State.{State}
use Rattle.meaning.specs.Base.{bit}
use Rattle.meaning.specs.Numbers.{wrong_table}
use Rattle.meaning.specs.Model.{Model, Chunk}
use Rattle.meaning.specs.State.{buffer_of, well_formed}
use Rattle.meaning.specs.Read.{read_refused, read_got}
use Rattle.meaning.specs.Image.{decode}
use Rattle.meaning.specs.Match.{fresh_table}
use Rattle.meaning.specs.Step.{Event, Step, step_stopped, step_made, step_of}
use Rattle.meaning.specs.Learning.{knowing, store_after, step_with}
use Rattle.meaning.specs.Store.{lent_by, store_fits, store_of}
use Rattle.meaning.specs.Refresh.{refresh}
use Rattle.meaning.specs.Run.{Going, going, Run, go_on, run_from}
use Rattle.meaning.specs.Calls.{accepted, open_state, opened_by, open_of, traced_by, trace_lent, run_lent, refreshed_by, refresh_of}
use Rattle.promises.specs.Words.{Machine, Reached, opened, ran, refreshed, changed}
use Rattle.promises.proofs.Proofs.Knowing.{with-made}

-- `Kept` holds of the state and the table that a caller has, and `Good` of a store within a run
module _ (m : Model) (Kept : State → List ℕ → Type 0) (Good : Option (List Chunk) → Type 0)
    (steps-keep : (s : State) (table : List ℕ) (store : Option (List Chunk)) → Kept s table → Good store → (e : Event) (s' : State) (mark : ℕ)
    → step_of (knowing m store) s table ≡ step_made e s' mark → Kept s' (refresh m.rules s' mark table) × Good (store_after m s e store)) where
  -- ---- a run

  abbrev GoingKept : Going → Type 0
  GoingKept g = Kept g.state g.table

  abbrev BothKept : Going → Type 0
  BothKept g = GoingKept g × Good g.store

  go_on_lem : (g : Going) (run : Going → Run Going) (st : Step) → BothKept g
      → ((e : Event) (s' : State) (mark : ℕ) → st ≡ step_made e s' mark → Kept s' (refresh m.rules s' mark g.table) × Good (store_after m g.state e g.store))
      → ((g' : Going) → BothKept g' → BothKept (run g').left)
      → BothKept (go_on m g run st).left
  go_on_lem g run (step_stopped n) h keeps ih = h
  go_on_lem g run (step_made e s' mark) h keeps ih = ih (going s' (refresh m.rules s' mark g.table) (store_after m g.state e g.store)) (keeps e s' mark refl)

  pub run-keeps : (n : ℕ) (g : Going) → BothKept g → BothKept (run_from m n g).left
  unfolding run_from
  run-keeps zero g h = h
  run-keeps (suc n) g h =
      go_on_lem g (λ g'. run_from m n g') (step_with m g.store g.state g.table) h
      (λ e s' mark q. steps-keep g.state g.table g.store h.0 h.1 e s' mark (with-made m g.store g.state g.table e s' mark q).0) (λ g' h'. run-keeps n g' h')

  -- ---- the calls, over an image that is accepted; the cases are: the table's length, the state, the mark

  module _ (opening-has : Kept (open_state m) (fresh_table m.rules (open_state m))) (lent-good : (lent : Option (List ℕ)) → store_fits m.types lent ≡ true → Good (store_of lent))
      (change-keeps : (s s' : State) (mark : ℕ) (table : List ℕ) → Kept s table → (s ≡ s') ⊎ (Machine s' × (well_formed m s' ≡ true)) → ((b : ℕ) → bit mark b ≡ false → buffer_of s b ≡ buffer_of s' b)
      → Kept s' (refresh m.rules s' mark table)) where
    -- a refresh of the same state
    refresh-keeps : (s : State) (mark : ℕ) (table : List ℕ) → Kept s table → Kept s (refresh m.rules s mark table)
    refresh-keeps s mark table h = change-keeps s s mark table h (inl refl) (λ b e. refl)

    opened-by : (table : List ℕ) (at : ℕ) (t : Bool) → (opened_by table (if t then read_got m at else read_refused wrong_table 0)).number ≡ 0
        → Kept (opened_by table (if t then read_got m at else read_refused wrong_table 0)).state (opened_by table (if t then read_got m at else read_refused wrong_table 0)).table
    opened-by table at true e = opening-has
    opened-by table at false e = absurd (omega arith)

    ran-by : (s : State) (table : List ℕ) (lent : Option (List ℕ)) (steps at : ℕ) (t u v : Bool) → well_formed m s ≡ u → store_fits m.types lent ≡ v → Kept s table
        → GoingKept (traced_by s table lent steps (if t then read_got m at else read_refused wrong_table 0)).left
    ran-by s table lent steps at true true true w f h = rw (w, f) (run-keeps steps (going s table (store_of lent)) (h, lent-good lent f)).0
    ran-by s table lent steps at true true false w f h = rw (w, f) h
    ran-by s table lent steps at true false v w f h = rw w h
    ran-by s table lent steps at false u v w f h = h

    refreshed-by : (s : State) (mark : ℕ) (table : List ℕ) (at : ℕ) (t u v : Bool) → well_formed m s ≡ u → leb (2 ^ m.buffers) mark ≡ v → Kept s table
        → Kept s (refreshed_by s mark table (if t then read_got m at else read_refused wrong_table 0)).table
    refreshed-by s mark table at true true true w l h = rw (w, l) h
    refreshed-by s mark table at true true false w l h = rw (w, l) (refresh-keeps s mark table h)
    refreshed-by s mark table at true false v w l h = rw w h
    refreshed-by s mark table at false u v w l h = h

    changed-by : (s s' : State) (mark : ℕ) (table : List ℕ) (at : ℕ) (t u v : Bool) → well_formed m s' ≡ u → leb (2 ^ m.buffers) mark ≡ v → Kept s table → Machine s'
        → ((b : ℕ) → bit mark b ≡ false → buffer_of s b ≡ buffer_of s' b) → (refreshed_by s' mark table (if t then read_got m at else read_refused wrong_table 0)).number ≡ 0
        → Kept s' (refreshed_by s' mark table (if t then read_got m at else read_refused wrong_table 0)).table
    changed-by s s' mark table at true true true w l h k same e = absurd (omega (arith, rw (w, l) at e))
    changed-by s s' mark table at true true false w l h k same e = rw (w, l) (change-keeps s s' mark table h (inr (k, w)) same)
    changed-by s s' mark table at true false v w l h k same e = absurd (omega (arith, rw w at e))
    changed-by s s' mark table at false u v w l h k same e = absurd (omega arith)

    module _ (image : List ℕ) (at : ℕ) (d : decode image ≡ read_got m at) where
      opened-keeps : (table : List ℕ) → (open_of image table).number ≡ 0 → Kept (open_of image table).state (open_of image table).table
      unfolding open_of accepted
      opened-keeps table e = rw d (opened-by table at (eqb (length table) (9 * length m.rules)) (rw d at e))

      ran-keeps : (s : State) (table : List ℕ) (steps lent : ℕ) (words : List ℕ) → Kept s table
          → Kept (run_lent image s table steps lent words).answer.state (run_lent image s table steps lent words).answer.table
      unfolding run_lent trace_lent accepted
      ran-keeps s table steps lent words h =
          rw d (ran-by s table (lent_by lent words) steps at (eqb (length table) (9 * length m.rules)) (well_formed m s) (store_fits m.types (lent_by lent words)) refl refl h)

      refreshed-keeps : (s : State) (mark : ℕ) (table : List ℕ) → Kept s table → Kept s (refresh_of image s mark table).table
      unfolding refresh_of accepted
      refreshed-keeps s mark table h =
          rw d (refreshed-by s mark table at (eqb (length table) (9 * length m.rules)) (well_formed m s) (leb (2 ^ m.buffers) mark) refl refl h)

      changed-keeps : (s s' : State) (mark : ℕ) (table : List ℕ) → Kept s table → Machine s' → ((b : ℕ) → bit mark b ≡ false → buffer_of s b ≡ buffer_of s' b)
          → (refresh_of image s' mark table).number ≡ 0 → Kept s' (refresh_of image s' mark table).table
      unfolding refresh_of accepted
      changed-keeps s s' mark table h k same e =
          rw d (changed-by s s' mark table at (eqb (length table) (9 * length m.rules)) (well_formed m s') (leb (2 ^ m.buffers) mark) refl refl h k same (rw d at e))

      pub chain-keeps : {s : State} {table : List ℕ} → Reached image s table → Kept s table
      chain-keeps (opened table e) = opened-keeps table e
      chain-keeps (ran {s} {table} r steps lent words) = ran-keeps s table steps lent words (chain-keeps r)
      chain-keeps (refreshed {s} {table} r mark) = refreshed-keeps s mark table (chain-keeps r)
      chain-keeps (changed {s} {table} r s' mark k same e) = changed-keeps s s' mark table (chain-keeps r) k same e
