-- What a run makes of the store: what each step keeps of it, the run keeps; and where nothing is lent there is none.
use Rattle.std.specs.Prelude.{◌≡◌, Bool, ◌↔◌, List, []}
use Rattle.std.proofs.Math.Path.{refl, ap, subst}
use Rattle.std.proofs.Math.Bool.{true, false}
use Rattle.std.proofs.Math.Option.{Option, none}
use Prim.Native.Nat.{ℕ, zero, suc, ◌*◌}
use Rattle.std.proofs.Math.Dec.{eqb}
use Rattle.std.proofs.Math.ListN.{length}
use Rattle.meaning.specs.declared.State.{State}
use Rattle.meaning.specs.Numbers.{wrong_table, ill_formed, bad_store}
use Rattle.meaning.specs.Model.{Model, Chunk}
use Rattle.meaning.specs.State.{well_formed}
use Rattle.meaning.specs.Read.{Read, read_refused, read_got}
use Rattle.meaning.specs.Image.{decode}
use Rattle.meaning.specs.Match.{fresh_table}
use Rattle.meaning.specs.Refresh.{refresh}
use Rattle.meaning.specs.Step.{Event, Step, step_stopped, step_made}
use Rattle.meaning.specs.Learning.{store_after, overfull, step_with}
use Rattle.meaning.specs.Store.{store_fits, store_of}
use Rattle.meaning.specs.Run.{Going, going, Run, ends, go_on, run_from}
use Rattle.meaning.specs.Calls.{accepted, trace_lent, trace_of, run_of}
use Rattle.meaning.specs.Fresh.{Moving, moving, fresh_from, fresh_trace_lent}
use Rattle.promises.specs.Words.{alone}
use Rattle.promises.specs.Sentences.{Beforehand, Taken, Given, AfterRun, RanTo}
use Rattle.promises.proofs.Proofs.Knowing.{with-made}
use Rattle.promises.proofs.Proofs.Outcomes.{freshly}
use Rattle.promises.proofs.Proofs.Numbers as numbers
use Rattle.promises.proofs.Proofs.Afresh.{run-as-kept}

module _ (m : Model) (P : Option (List Chunk) → Type 0)
    (keeps : (s : State) (e : Event) (store : Option (List Chunk)) → P store → overfull (store_after m s e store) ≡ false → P (store_after m s e store)) where
  pub along : (n : ℕ) (g : Going) → P g.store → P (run_from m n g).left.store
  unfolding run_from
  along zero g h = h
  along (suc n) g h = by (λ g' k. along n g' k) (step_with m g.store g.state g.table) refl
    where
      by : ((g' : Going) → P g'.store → P (run_from m n g').left.store) → (st : Step) → step_with m g.store g.state g.table ≡ st
          → P (go_on m g (λ g'. run_from m n g') st).left.store
      by ih (step_stopped k) q = h
      by ih (step_made e s' mark) q =
          ih (going s' (refresh m.rules s' mark g.table) (store_after m g.state e g.store))
          (keeps g.state e g.store h (with-made m g.store g.state g.table e s' mark q).1)

  -- the run without a table leaves the same store
  pub along-fresh : (n : ℕ) (g : Moving) → P g.store → P (fresh_from m n g).left.store
  along-fresh n g h = rw (run-as-kept m n g).same_store (along n (freshly m g) h)

-- ---- a call: it is refused, or it runs on

module _ (image : List ℕ) (s : State) (steps : ℕ) (lent : Option (List ℕ)) where
  -- the run of a model with a store that fits
  pub record Accepts (m : Model) : Type 0 where
    pub end : ℕ
    pub reads : decode image ≡ read_got m end
    pub well : well_formed m s ≡ true
    pub fits : store_fits m.types lent ≡ true

  pub data Kept (table : List ℕ) : Type 0 where
    turned : (n : ℕ) → trace_lent image s table steps lent ≡ ends n (going s table none) → Kept table
    went : (m : Model) → Accepts m → trace_lent image s table steps lent ≡ run_from m steps (going s table (store_of lent)) → Kept table

  pub kept : (table : List ℕ) → Kept table
  unfolding trace_lent accepted
  kept table = by (decode image) refl
    where
      by : (r : Read Model) → decode image ≡ r → Kept table
      by (read_refused n at) d = turned n (rw d refl)
      by (read_got m end) d = all (eqb (length table) (9 * length m.rules)) (well_formed m s) (store_fits m.types lent) refl refl refl
        where
          all : (l w f : Bool) → eqb (length table) (9 * length m.rules) ≡ l → well_formed m s ≡ w → store_fits m.types lent ≡ f → Kept table
          all false w f p q r = turned wrong_table (rw (d, p) refl)
          all true false f p q r = turned ill_formed (rw (d, p, q) refl)
          all true true false p q r = turned bad_store (rw (d, p, q, r) refl)
          all true true true p q r = went m (record { end = end; reads = d; well = q; fits = r }) (rw (d, p, q, r) refl)

  pub data Freed : Type 0 where
    put-off : (n : ℕ) → fresh_trace_lent image s steps lent ≡ ends n (alone s) → Freed
    moves : (m : Model) → Accepts m → fresh_trace_lent image s steps lent ≡ fresh_from m steps (moving s (store_of lent)) → Freed

  pub freed : Freed
  unfolding fresh_trace_lent
  freed = by (decode image) refl
    where
      by : (r : Read Model) → decode image ≡ r → Freed
      by (read_refused n at) d = put-off n (rw d refl)
      by (read_got m end) d = all (well_formed m s) (store_fits m.types lent) refl refl
        where
          all : (w f : Bool) → well_formed m s ≡ w → store_fits m.types lent ≡ f → Freed
          all false f q r = put-off ill_formed (rw (d, q) refl)
          all true false q r = put-off bad_store (rw (d, q, r) refl)
          all true true q r = moves m (record { end = end; reads = d; well = q; fits = r }) (rw (d, q, r) refl)

  -- what holds of no store, and of what the run of a model leaves of the one lent, holds of what the call leaves
  module _ (P : Option (List Chunk) → Type 0) (bare : P none) where
    pub kept_store : ((m : Model) → Accepts m → (table : List ℕ) → P (run_from m steps (going s table (store_of lent))).left.store) → (table : List ℕ)
        → P (trace_lent image s table steps lent).left.store
    kept_store h table = by (kept table)
      where
        by : Kept table → P (trace_lent image s table steps lent).left.store
        by (turned n q) = rw q bare
        by (went m a q) = rw q (h m a table)

    pub freed-store : ((m : Model) → Accepts m → (table : List ℕ) → P (run_from m steps (going s table (store_of lent))).left.store) → P (fresh_trace_lent image s steps lent).left.store
    freed-store h = by freed
      where
        by : Freed → P (fresh_trace_lent image s steps lent).left.store
        by (put-off n q) = rw q bare
        by (moves m a q) = rw (q, (run-as-kept m steps (moving s (store_of lent))).same_store) (h m a (fresh_table m.rules s))

-- ---- where nothing is lent, nothing is learned

module _ (image : List ℕ) (s : State) (steps : ℕ) where
  none-along : (m : Model) (n : ℕ) (g : Going) → g.store ≡ none → (run_from m n g).left.store ≡ none
  none-along m n g q = along m (λ store. store ≡ none) (λ x e store h o. ap (store_after m x e) h) n g q

  pub none_kept : (table : List ℕ) → (trace_lent image s table steps none).left.store ≡ none
  none_kept table = kept_store image s steps none (λ store. store ≡ none) refl (λ m a t. none-along m steps (going s t none) refl) table

  pub none-freed : (fresh_trace_lent image s steps none).left.store ≡ none
  none-freed = freed-store image s steps none (λ store. store ≡ none) refl (λ m a t. none-along m steps (going s t none) refl)

-- the kept call
module _ (image table : List ℕ) (s : State) (asked : ℕ) where
  pub alone-taken : (m : Model) → Taken image table m → well_formed m s ≡ true → RanTo m (going s table none) asked (trace_of image s table asked).events (run_of image s table asked) none
  unfolding run_of store_fits
  alone-taken m t w =
      subst (RanTo m (going s table none) asked (trace_of image s table asked).events (run_of image s table asked)) (none_kept image s asked table)
      (numbers.run-taken image table s none asked m t w refl)

  pub alone-number : (n : ℕ) → ((run_of image s table asked).number ≡ n) ↔ Given image table (AfterRun s table none asked) n
  unfolding run_of
  alone-number n = numbers.run-number image table s none asked n

  pub alone-refused : Beforehand (run_of image s table asked).number
      → run_of image s table asked ≡ record { number = (run_of image s table asked).number; position = (run_of image s table asked).position; state = s; table = table; made = 0 }
  unfolding run_of
  alone-refused b = numbers.run-refused image table s none asked b

  pub alone-untold : Beforehand (run_of image s table asked).number → (trace_of image s table asked).events ≡ []
  unfolding run_of
  alone-untold b = ap (λ (r : Run Going). r.events) (numbers.left-refused image table s none asked b)
