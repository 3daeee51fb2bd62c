-- Request 2026-05: "a cleared chunk is remembered". What a step learns, what a run and a call leave of a lent store, and what is found of it. (The numbers 14 and 15 among
-- all others are in Numbers and Fresh, demand 2 with a store in Semantics and Fresh, demand 3 in Keeping: a chain of calls may lend any words to any run.)
use Rattle.std.specs.Prelude.{if◌then◌else◌, ◌≡◌, ◌↔◌, ◌⊎◌, Bool, List, ◌++◌, map, ℕ, ◌≤◌, length}
use Rattle.std.proofs.Math.Path.{refl}
use Rattle.std.proofs.Common.{sym, ap, subst, ◌∙◌, append-nil}
use Rattle.std.proofs.Math.Bool.{true, false}
use Rattle.std.proofs.Math.Option.{Option, none, some}
use Rattle.meaning.specs.declared.State.{State}
use Rattle.meaning.specs.Base.{bit}
use Rattle.meaning.specs.Numbers.{store_full}
use Rattle.meaning.specs.Model.{Model, Rule, deed_clear, Named, Chunk, Fact}
use Rattle.meaning.specs.State.{well_formed}
use Rattle.meaning.specs.Read.{read_got}
use Rattle.meaning.specs.Image.{decode}
use Rattle.meaning.specs.Retrieval.{retrieve}
use Rattle.meaning.specs.Fire.{deed_on}
use Rattle.meaning.specs.Step.{Event, event_fired, step_stopped, step_made, step_of}
use Rattle.meaning.specs.Learning.{learned, knowing, adds, store_after, step_with}
use Rattle.meaning.specs.Store.{lent_by, store_fits, store_of, store_left}
use Rattle.meaning.specs.Run.{Going, run_from}
use Rattle.meaning.specs.Calls.{trace_lent, run_lent, run_of}
use Rattle.meaning.specs.Fresh.{Moving, fresh_from, fresh_trace_lent, fresh_lent, fresh_of}
use Rattle.promises.specs.Words.{At, Machine, ClearedBy, IsStore, Growth, Overfull, Stands, Before, OnlyGrows, Grows}
use Rattle.promises.specs.Published.{values_in, Fits, Retrieved, Stores}
use Rattle.promises.specs.Sentences.{Taken}
use Rattle.promises.proofs.Proofs.Selection.{at_same}
use Rattle.promises.proofs.Proofs.Knowing.{none-known}
use Rattle.promises.proofs.Proofs.Outcomes.{freshly}
use Rattle.promises.proofs.Proofs.Afresh.{run-as-kept}
use Rattle.promises.proofs.Proofs.Lending.{along, along-fresh, none_kept, none-freed}
use Rattle.promises.proofs.Proofs.Joining as joining
use Rattle.promises.proofs.Proofs.Storing as storing
use Rattle.promises.proofs.Proofs.Fitting as fitting
use Rattle.promises.proofs.Proofs.ReadBack as back
use Rattle.promises.proofs.Proofs.Remembered as remembered

-- ---- a step

-- The memory that a step reads: "image facts, then store facts numbered after them", each "with activation 0 and latency 50 ms"; rules and failure latency are the image's.
pub memory-exactly : (m : Model) (cs : List Chunk) → let known : Model = knowing m (some cs) in
    (known.facts ≡ m.facts ++ map (λ (c : Chunk). record { chunk = c; activation = 0; latency = 50 }) cs) × (known.rules ≡ m.rules) × (known.failure ≡ m.failure)
memory-exactly m cs = (refl, refl, refl)

-- What a step makes of the store is what `Published.Stores` says, and nothing else: a wait leaves it, and in a firing exactly what the rule clears from a visible buffer, other
-- than nil and not known, joins after it, each once and by rising buffer number (`Published.Joins`). "Pending chunks and requests store nothing."
pub stores-exactly : (m : Model) (s : State) (e : Event) (store store' : Option (List Chunk)) → (store_after m s e store ≡ store') ↔ Stores m s e store store'
stores-exactly m s e store store' = (λ q. subst (Stores m s e store) q (storing.stores-after m s e store), λ h. storing.stores-once h)

module _ (m : Model) (cs : List Chunk) (s : State) where
  abbrev memory : Model
  memory = knowing m (some cs)

  -- So a rule that clears nothing but what is known leaves the store as it was,
  pub known-leaves : (k : ℕ) → ((c : Chunk) → ClearedBy m.rules s k c → Stands memory.facts c) → store_after m s (event_fired k) (some cs) ≡ some cs
  known-leaves k h = ap (λ (new : List Chunk). some (cs ++ new)) (joining.adds-nothing memory s k h) ∙ ap some (append-nil cs)

  -- among them each one that only modifies and requests.
  pub unless-cleared : (k : ℕ) (r : Rule) → At r k m.rules → ((b : ℕ) → deed_on r.actions b ≡ some deed_clear → ⊥) → store_after m s (event_fired k) (some cs) ≡ some cs
  unless-cleared k r at h = known-leaves k (λ c o. absurd (h o.buffer (ap (λ (x : Rule). deed_on x.actions o.buffer) (at_same at o.numbered) ∙ o.clears)))

  module _ (table : List ℕ) where
    -- "Requests in the same step read the memory as before it": whatever the table, the step that is made is the one with the memory before it, and its facts have room.
    pub made-exactly : (e : Event) (s' : State) (mark : ℕ)
        → (step_with m (some cs) s table ≡ step_made e s' mark) ↔ ((step_of memory s table ≡ step_made e s' mark) × (length (cs ++ adds memory s e) ≤ 256))
    made-exactly e s' mark = remembered.made-exactly m cs s table e s' mark

    -- "14, a step whose new facts would make more than 256, after 8": exactly then,
    pub full-exactly : (step_with m (some cs) s table ≡ step_stopped store_full) ↔ Overfull m cs s table
    full-exactly = remembered.full-exactly m cs s table

    -- and by another number it stops exactly if it does so with that memory: 7, 8 or 9.
    pub stopped-exactly : (n : ℕ) → (n ≡ store_full → ⊥) → (step_with m (some cs) s table ≡ step_stopped n) ↔ (step_of memory s table ≡ step_stopped n)
    stopped-exactly n h = remembered.stopped-exactly m cs s table n h

-- Where nothing is lent, the step is the one of the base.
pub step-alone : (m : Model) (s : State) (table : List ℕ) → step_with m none s table ≡ step_of m s table
step-alone m s table = none-known m s table

-- ---- a run

-- The store only grows, "in the order learned": after any run it is what it was, and after that what was learned. No two equal facts are learned, and none that the
-- image or the store has. There are never more than 256.
pub run-grows : (m : Model) (n : ℕ) (g : Going) (cs : List Chunk) → g.store ≡ some cs → length cs ≤ 256 → Growth m cs (run_from m n g).left.store
run-grows m n g cs is few =
    along m (Growth m cs) (joining.grown-more m cs) n g (subst (Growth m cs) (sym is) (joining.grown-none m cs few))

pub fresh-grows : (m : Model) (n : ℕ) (g : Moving) (cs : List Chunk) → g.store ≡ some cs → length cs ≤ 256 → Growth m cs (fresh_from m n g).left.store
fresh-grows m n g cs is few =
    along-fresh m (Growth m cs) (joining.grown-more m cs) n g (subst (Growth m cs) (sym is) (joining.grown-none m cs few))

-- ---- "what is retrieved after a clear is the chunk that was cleared if nothing fits better"

-- a request, in a memory where the chunk stands: the fact that is found has the chunk, or it is found before every fact that has it, of higher activation, or of the same and
-- with a lower number
pub record Recalls (memory : List Fact) (c : Chunk) (isa : ℕ) (ns : List Named) (entry : List ℕ) : Type 0 where
  pub stands : Stands memory c
  pub place : ℕ
  pub fact : Fact
  pub found : retrieve memory isa ns entry ≡ some fact
  pub fitting : Retrieved memory (values_in entry) isa ns place fact
  pub own_or_better : (fact.chunk ≡ c) ⊎ ((own : Stands memory c) → Before fact place own.fact own.place)

-- Rule k, fired in state s with a store, clears chunk c; and then any run goes on with the store after that step, however long.
module _ (m : Model) (cs : List Chunk) (s : State) (k : ℕ) (c : Chunk) (clears : ClearedBy m.rules s k c) (n : ℕ) where
  -- A request that c fits finds in the memory then what `Recalls` says,
  pub cleared-recalled : (g : Going) → g.store ≡ store_after m s (event_fired k) (some cs) → (isa : ℕ) (ns : List Named) (entry : List ℕ) → Fits (values_in entry) isa ns (learned c)
      → Recalls (knowing m (run_from m n g).left.store).facts c isa ns entry
  cleared-recalled g after isa ns entry fits =
      let later : List Fact = (knowing m (run_from m n g).left.store).facts in
      let own : Stands later c =
      remembered.stands_on m c n g (subst (λ (store : Option (List Chunk)). Stands (knowing m store).facts c) (sym after) (remembered.cleared-stands m cs s k c clears)) in
      let r = remembered.recalled later c own isa ns entry fits in
      record { stands = own; place = r.0; fact = r.1; found = r.2; fitting = r.3; own_or_better = r.4 }

  pub fresh-cleared-recalled : (g : Moving) → g.store ≡ store_after m s (event_fired k) (some cs) → (isa : ℕ) (ns : List Named) (entry : List ℕ) → Fits (values_in entry) isa ns (learned c)
      → Recalls (knowing m (fresh_from m n g).left.store).facts c isa ns entry
  fresh-cleared-recalled g after isa ns entry fits = rw (run-as-kept m n g).same_store (cleared-recalled (freshly m g) after isa ns entry fits)

  -- and if c was not known it stands there "with activation 0 and latency 50 ms", after the image's facts.
  module _ (unknown : Stands (knowing m (some cs)).facts c → ⊥) where
    pub cleared-learned : (g : Going) → g.store ≡ store_after m s (event_fired k) (some cs)
        → (j : ℕ) × (length m.facts ≤ j) × At (record { chunk = c; activation = 0; latency = 50 }) j (knowing m (run_from m n g).left.store).facts
    cleared-learned g after = remembered.learned-on m cs s k c clears unknown n g after

    pub fresh-cleared-learned : (g : Moving) → g.store ≡ store_after m s (event_fired k) (some cs)
        → (j : ℕ) × (length m.facts ≤ j) × At (record { chunk = c; activation = 0; latency = 50 }) j (knowing m (fresh_from m n g).left.store).facts
    fresh-cleared-learned g after = rw (run-as-kept m n g).same_store (cleared-learned (freshly m g) after)

-- ---- the words of a store

-- "15, not 256 places, a count over 256 or a fact that the image could not hold": words are taken exactly if they are a store (`Words.IsStore`).
pub fits-exactly : (types words : List ℕ) → (store_fits types (some words) ≡ true) ↔ IsStore types words
fits-exactly types words = fitting.fits-exactly types words

-- ---- the calls: every image, state and table, any number of steps, and any words beside them

module _ (image : List ℕ) (s : State) (asked lent : ℕ) (words : List ℕ) where
  -- What is not lent is neither read nor written, "whatever its length": the call is the one with nothing lent, and learns nothing.
  pub nothing_lent : bit lent 0 ≡ false → (table : List ℕ) → run_lent image s table asked lent words ≡ record { answer = run_of image s table asked; store = words }
  unfolding run_lent run_of store_left
  nothing_lent b table = rw (b, none_kept image s asked table) refl

  pub fresh-nothing-lent : bit lent 0 ≡ false → fresh_lent image s asked lent words ≡ record { answer = fresh_of image s asked; store = words }
  unfolding fresh_lent fresh_of store_left
  fresh-nothing-lent b = rw (b, none-freed image s asked) refl

  module _ (machine : Machine s) where
    -- No word of a place below the old count is altered, nor one past the new count, whatever the call answers: "places past the count unaltered word for word".
    pub only-grows : (table : List ℕ) → OnlyGrows words (run_lent image s table asked lent words).store
    unfolding run_lent store_left
    only-grows table = by (bit lent 0)
      where
        by : (b : Bool) → OnlyGrows words (store_left words (trace_lent image s table asked (if b then some words else none)).left.store)
        by true = remembered.kept-grows image s asked words machine table
        by false = rw (none_kept image s asked table) (remembered.words-stay words)

    pub fresh-only-grows : OnlyGrows words (fresh_lent image s asked lent words).store
    unfolding fresh_lent store_left
    fresh-only-grows = by (bit lent 0)
      where
        by : (b : Bool) → OnlyGrows words (store_left words (fresh_trace_lent image s asked (if b then some words else none)).left.store)
        by true = remembered.freed-grows image s asked words machine
        by false = rw (none-freed image s asked) (remembered.words-stay words)

    -- Where it is not refused, the store that is left is the one lent with what was learned after it, and the next call takes it.
    pub learns : bit lent 0 ≡ true → (table : List ℕ) (m : Model) → Taken image table m → well_formed m s ≡ true
        → store_fits m.types (some words) ≡ true → Grows m words (run_lent image s table asked lent words).store
    unfolding run_lent
    learns b table m t w f = rw b (remembered.kept-learns image s asked words machine table m t w f)

    pub fresh-learns : bit lent 0 ≡ true → (m : Model) (end : ℕ) → decode image ≡ read_got m end → well_formed m s ≡ true → store_fits m.types (some words) ≡ true
        → Grows m words (fresh_lent image s asked lent words).store
    unfolding fresh_lent
    fresh-learns b m end d w f = rw b (remembered.freed-learns image s asked words machine m end d w f)

    -- And what is left of the words reads as the store that the steps came to: so demand 2 says of the words which facts were learned, and in which order.
    module _ (m : Model) (well : well_formed m s ≡ true) (fits : store_fits m.types (lent_by lent words) ≡ true) where
      pub reads-back : (table : List ℕ) → Taken image table m
          → store_of (lent_by lent (run_lent image s table asked lent words).store) ≡ (trace_lent image s table asked (lent_by lent words)).left.store
      unfolding run_lent
      reads-back table t = back.kept_back image m s asked well machine words lent fits table t

      pub fresh-reads-back : (end : ℕ) → decode image ≡ read_got m end
          → store_of (lent_by lent (fresh_lent image s asked lent words).store) ≡ (fresh_trace_lent image s asked (lent_by lent words)).left.store
      unfolding fresh_lent
      fresh-reads-back end d = back.freed-back image m s asked well machine words lent fits end d
