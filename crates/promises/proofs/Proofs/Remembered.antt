-- What a call leaves of a store, and what a request finds of it.
use Rattle.std.specs.Prelude.{◌≡◌, refl, ◌↔◌, ◌⊎◌, Bool, true, false, ◌&&◌, eqb, length, get_or}
use Rattle.std.proofs.Common.{sym, ap, subst, ◌∙◌, inl, inr, ⊎_elim, arith, eqb-true, eq-eqb, leb-true, le-leb, ltb-true, ltb-false, lt-ltb, le-ltb, length-append}
use mathlib.Core.List.{List, ◌++◌, map}
use Rattle.std.proofs.Math.Option.{Option, none, some}
use Prim.Native.Nat.{ℕ, ◌+◌, ◌≤◌}
use Rattle.std.proofs.Math.Dec.{leb}
use Rattle.meaning.specs.declared.State.{State}
use Rattle.meaning.specs.Base.{every, up_from}
use Rattle.meaning.specs.Numbers.{store_full}
use Rattle.meaning.specs.Model.{Model, Named, Chunk, Fact}
use Rattle.meaning.specs.State.{well_formed}
use Rattle.meaning.specs.Read.{read_got}
use Rattle.meaning.specs.Image.{decode}
use Rattle.meaning.specs.Match.{fresh_table}
use Rattle.meaning.specs.Retrieval.{retrieve}
use Rattle.meaning.specs.Step.{Event, event_fired, step_stopped, step_made, step_of}
use Rattle.meaning.specs.Learning.{learned, knowing, equal, adds, store_after, step_with}
use Rattle.meaning.specs.Store.{place_in, store_in, holdable, store_fits, store_left}
use Rattle.meaning.specs.Run.{Going, going, run_from}
use Rattle.meaning.specs.Calls.{trace_lent}
use Rattle.meaning.specs.Fresh.{moving, fresh_trace_lent}
use Rattle.laws.specs.BaseLaws.{no_true, and_left, and_right, by-lt}
use Rattle.promises.specs.Words.{At, Machine, ClearedBy, Growth, Overfull, Stands, Before, OnlyGrows, Grows}
use Rattle.promises.specs.Published.{values_in, Fits, Retrieved}
use Rattle.promises.specs.Sentences.{Taken, Why, stale, late-fire, late-wait, quiet}
use Rattle.promises.proofs.Proofs.Decoded.{and-true, all-weaken}
use Rattle.promises.proofs.Proofs.Selection.{at_same}
use Rattle.promises.proofs.Proofs.Placed.{decode-short}
use Rattle.promises.proofs.Proofs.Retrieving.{found_here, nothing-here}
use Rattle.promises.proofs.Proofs.Knowing.{Unmade, as-known, crowding, with-made, with-stopped, made-with, stopped-with}
use Rattle.promises.proofs.Proofs.Stopping.{stopped-why}
use Rattle.promises.proofs.Proofs.Chains.{run-keeps}
use Rattle.promises.proofs.Proofs.Numbers.{taken-accepted}
use Rattle.promises.proofs.Proofs.Machines.{chunk_fit, StoreFit, Sound, fit, lent-fit, known-sound}
use Rattle.promises.proofs.Proofs.Lending.{along, Accepts, kept_store, freed-store}
use Rattle.promises.proofs.Proofs.Afresh.{run-as-kept}
use Rattle.promises.proofs.Proofs.Joining.{In, at_left, at_right, at_map, equal-true, equal-refl, store-stands, more-stands, adds-in, grown-none, grown-more}
use Rattle.promises.proofs.Proofs.Stored.{Nines, length_up, left-count, left-reads, left-long, left-past, same-words}

-- ---- the words

pub words-stay : (words : List ℕ) → OnlyGrows words words
words-stay words = record { as_long = refl; no_fewer = omega arith; old_places = λ i a b. refl; past = λ i a. refl }

record Fitting (types words : List ℕ) : Type 0 where
  long : length words ≡ 2305
  low : get_or words 0 0 ≤ 256

fitting : (types words : List ℕ) → store_fits types (some words) ≡ true → Fitting types words
unfolding store_fits
fitting types words e =
    let r : (eqb (length words) 2305 && leb (get_or words 0 0) 256) ≡ true = and_left (eqb (length words) 2305 && leb (get_or words 0 0) 256) (every (holdable types) (store_in words)) e in
    record {
      long = eqb-true (length words) 2305 (and_left (eqb (length words) 2305) (leb (get_or words 0 0) 256) r);
      low = leb-true (get_or words 0 0) 256 (and_right (eqb (length words) 2305) (leb (get_or words 0 0) 256) r);
    }

store_long : (words : List ℕ) → length (store_in words) ≡ get_or words 0 0
unfolding store_in
store_long words = length_up (place_in words) 0 (get_or words 0 0)

-- words that took a store grown from theirs
module _ (m : Model) (words : List ℕ) (fits : store_fits m.types (some words) ≡ true) where
  module _ (new : List Chunk) (most : length (store_in words ++ new) ≤ 256) (fit : StoreFit m (some (store_in words ++ new))) where
    abbrev cs : List Chunk
    cs = store_in words ++ new

    nine : Nines cs
    nine = all-weaken chunk_fit (λ (c : Chunk). eqb (length c.slots) 8) (λ c e. and_left (eqb (length c.slots) 8) _ e) cs fit.0

    counted : length cs ≡ get_or words 0 0 + length new
    counted = length-append (store_in words) new ∙ omega (arith, store_long words)

    long : length (store_left words (some cs)) ≡ length words
    long = left-long words cs nine (omega (arith, (fitting m.types words fits).long))

    grows-by : OnlyGrows words (store_left words (some cs))
    unfolding store_in
    grows-by =
        record {
          as_long = long;
          no_fewer = omega (arith, left-count words cs nine, counted);
          old_places = λ i a b.
              same-words words (store_left words (some cs)) (get_or words 0 0) (length new) new
              (ap (λ (n : ℕ). map (place_in (store_left words (some cs))) (up_from 0 n)) (sym (left-count words cs nine ∙ counted)) ∙ left-reads words cs nine) i a b;
          past = λ i a. left-past words cs nine i (omega (arith, left-count words cs nine));
        }

    again : store_fits m.types (some (store_left words (some cs))) ≡ true
    unfolding store_fits
    again =
        let left : List ℕ = store_left words (some cs) in
        and-true (eqb (length left) 2305 && leb (get_or left 0 0) 256) (every (holdable m.types) (store_in left))
        (and-true (eqb (length left) 2305) (leb (get_or left 0 0) 256) (eq-eqb (length left) 2305 (long ∙ (fitting m.types words fits).long))
        (le-leb (get_or left 0 0) 256 (omega (arith, left-count words cs nine))))
        (ap (every (holdable m.types)) (left-reads words cs nine) ∙ fit.1)

  pub grown-words : (store : Option (List Chunk)) → Growth m (store_in words) store → StoreFit m store → Grows m words (store_left words store) × OnlyGrows words (store_left words store)
  grown-words store g fit =
      let f : StoreFit m (some (store_in words ++ g.new)) = subst (StoreFit m) g.is fit in
      let cs : List Chunk = store_in words ++ g.new in
      let n : Nines cs = nine g.new g.most f in
      rw g.is (
        record {
          new = g.new;
          in_order = left-reads words cs n;
          counted = left-count words cs n ∙ counted g.new g.most f;
          most = omega (arith, left-count words cs n, g.most);
          learns = g.learns;
          taken_again = again g.new g.most f;
        },
        grows-by g.new g.most f,
      )

-- ---- the calls

module _ (image : List ℕ) (s : State) (steps : ℕ) (words : List ℕ) (machine : Machine s) where
  -- of a run that went on
  run-grows : (m : Model) → Accepts image s steps (some words) m → (table : List ℕ)
      → let store : Option (List Chunk) = (run_from m steps (going s table (some (store_in words)))).left.store in Grows m words (store_left words store) × OnlyGrows words (store_left words store)
  run-grows m a table =
      let g : Going = going s table (some (store_in words)) in
      let few : length (store_in words) ≤ 256 = omega (arith, store_long words, (fitting m.types words a.fits).low) in
      let grown : Growth m (store_in words) (run_from m steps g).left.store = along m (Growth m (store_in words)) (grown-more m (store_in words)) steps g (grown-none m (store_in words) few) in
      let kept : StoreFit m (run_from m steps g).left.store =
      (run-keeps m (λ x t. Sound m x) (StoreFit m) (known-sound image m a.end a.reads) steps g
      (record { well = a.well; machine = machine }, lent-fit m (fit image m a.end a.reads) (some words) a.fits)).1 in
      grown-words m words a.fits (run_from m steps g).left.store grown kept

  pub kept-grows : (table : List ℕ) → OnlyGrows words (store_left words (trace_lent image s table steps (some words)).left.store)
  unfolding store_left
  kept-grows table =
      kept_store image s steps (some words) (λ store. OnlyGrows words (store_left words store)) (words-stay words) (λ m a t. (run-grows m a t).1) table

  pub freed-grows : OnlyGrows words (store_left words (fresh_trace_lent image s steps (some words)).left.store)
  unfolding store_left
  freed-grows = freed-store image s steps (some words) (λ store. OnlyGrows words (store_left words store)) (words-stay words) (λ m a t. (run-grows m a t).1)

  pub kept-learns : (table : List ℕ) (m : Model) → Taken image table m → well_formed m s ≡ true → store_fits m.types (some words) ≡ true
      → Grows m words (store_left words (trace_lent image s table steps (some words)).left.store)
  unfolding trace_lent
  kept-learns table m t w f =
      rw (taken-accepted image table t, w, f) (run-grows m (record { end = t.end; reads = decode-short image t.short ∙ t.reads; well = w; fits = f }) table).0

  pub freed-learns : (m : Model) (end : ℕ) → decode image ≡ read_got m end → well_formed m s ≡ true → store_fits m.types (some words) ≡ true
      → Grows m words (store_left words (fresh_trace_lent image s steps (some words)).left.store)
  unfolding fresh_trace_lent
  freed-learns m end d w f =
      rw (d, w, f, (run-as-kept m steps (moving s (some (store_in words)))).same_store) (run-grows m (record { end = end; reads = d; well = w; fits = f }) (fresh_table m.rules s)).0

-- ---- 14

why-fourteen : {m : Model} {s : State} {table : List ℕ} {n : ℕ} → Why m s table n → n ≡ store_full → ⊥
why-fourteen (stale o d) e = omega arith
why-fourteen (late-fire o d l) e = omega arith
why-fourteen (late-wait o d l) e = omega arith
why-fourteen (quiet o d) e = omega arith

module _ (m : Model) (cs : List Chunk) (s : State) (table : List ℕ) where
  by-unmade : {n : ℕ} → Unmade m (some cs) s (step_of (knowing m (some cs)) s table) n → n ≡ store_full → Overfull m cs s table
  by-unmade {n} (as-known q) e = absurd (why-fourteen (stopped-why (knowing m (some cs)) s table n q) e)
  by-unmade (crowding {e = e} {s'} {mark} q o) z =
      record { event = e; state = s'; mark = mark; made = q; too_many = ltb-true 256 (length (cs ++ adds (knowing m (some cs)) s e)) o }

  pub full-exactly : (step_with m (some cs) s table ≡ step_stopped store_full) ↔ Overfull m cs s table
  full-exactly = (
    λ h. by-unmade (with-stopped m (some cs) s table store_full h) refl,
    λ o.
        stopped-with m (some cs) s table (crowding o.made (lt-ltb 256 (length (cs ++ adds (knowing m (some cs)) s o.event)) o.too_many)),
  )

  pub made-exactly : (e : Event) (s' : State) (mark : ℕ)
      → (step_with m (some cs) s table ≡ step_made e s' mark) ↔ ((step_of (knowing m (some cs)) s table ≡ step_made e s' mark) × (length (cs ++ adds (knowing m (some cs)) s e) ≤ 256))
  made-exactly e s' mark =
      let n : ℕ = length (cs ++ adds (knowing m (some cs)) s e) in
      (λ h. let w = with-made m (some cs) s table e s' mark h in (w.0, ltb-false 256 n w.1), λ h. made-with m (some cs) s table e s' mark h.0 (le-ltb 256 n h.1))

  as_before : {n : ℕ} → (n ≡ store_full → ⊥) → Unmade m (some cs) s (step_of (knowing m (some cs)) s table) n → step_of (knowing m (some cs)) s table ≡ step_stopped n
  as_before h (as-known q) = q
  as_before h (crowding q o) = absurd (h refl)

  pub stopped-exactly : (n : ℕ) → (n ≡ store_full → ⊥) → (step_with m (some cs) s table ≡ step_stopped n) ↔ (step_of (knowing m (some cs)) s table ≡ step_stopped n)
  stopped-exactly n h = (λ q. as_before h (with-stopped m (some cs) s table n q), λ q. stopped-with m (some cs) s table (as-known q))

-- ---- what was cleared stands in the memory, and goes on standing there

pub cleared-stands : (m : Model) (cs : List Chunk) (s : State) (k : ℕ) (c : Chunk) → ClearedBy m.rules s k c → Stands (knowing m (store_after m s (event_fired k) (some cs))).facts c
cleared-stands m cs s k c h =
    let new : List Chunk = adds (knowing m (some cs)) s (event_fired k) in
    ⊎_elim (λ (g : Stands (knowing m (some cs)).facts c). more-stands m cs new g)
    (λ (i : (j : ℕ) × At c j new). store-stands m (cs ++ new) (length cs + i.0, at_right cs i.1)) (adds-in (knowing m (some cs)) s k c h)

pub stands_on : (m : Model) (c : Chunk) (n : ℕ) (g : Going) → Stands (knowing m g.store).facts c → Stands (knowing m (run_from m n g).left.store).facts c
stands_on m c n g h = along m (λ store. Stands (knowing m store).facts c) (λ s e store own o. by s e store own) n g h
  where
    by : (s : State) (e : Event) (store : Option (List Chunk)) → Stands (knowing m store).facts c → Stands (knowing m (store_after m s e store)).facts c
    by s e none own = own
    by s e (some cs) own = more-stands m cs (adds (knowing m (some cs)) s e) own

-- a store that has c
record Has (c : Chunk) (store : Option (List Chunk)) : Type 0 where
  chunks : List Chunk
  is : store ≡ some chunks
  in_it : In c chunks

-- what joined goes on standing after the image's facts
pub learned-on : (m : Model) (cs : List Chunk) (s : State) (k : ℕ) (c : Chunk) → ClearedBy m.rules s k c → (Stands (knowing m (some cs)).facts c → ⊥)
    → (n : ℕ) (g : Going) → g.store ≡ store_after m s (event_fired k) (some cs)
    → (j : ℕ) × (length m.facts ≤ j) × At (learned c) j (knowing m (run_from m n g).left.store).facts
learned-on m cs s k c h unknown n g after =
    let i : In c (adds (knowing m (some cs)) s (event_fired k)) =
    ⊎_elim (λ (own : Stands (knowing m (some cs)).facts c). absurd (unknown own)) (λ (j : In c (adds (knowing m (some cs)) s (event_fired k))). j) (adds-in (knowing m (some cs)) s k c h) in
    last (along m (Has c) (λ x e store own o. on x e store own) n g
    (record { chunks = cs ++ adds (knowing m (some cs)) s (event_fired k); is = after; in_it = (length cs + i.0, at_right cs i.1) }))
  where
    on : (x : State) (e : Event) (store : Option (List Chunk)) → Has c store → Has c (store_after m x e store)
    on x e store own =
        let more : List Chunk = adds (knowing m (some own.chunks)) x e in
        record { chunks = own.chunks ++ more; is = ap (store_after m x e) own.is; in_it = (own.in_it.0, at_left own.in_it.1 more) }

    last : {store : Option (List Chunk)} → Has c store → (j : ℕ) × (length m.facts ≤ j) × At (learned c) j (knowing m store).facts
    last own = rw own.is (length m.facts + own.in_it.0, omega arith, at_right m.facts (at_map learned own.in_it.1))

-- ---- what a request finds

module _ (memory : List Fact) (c : Chunk) (isa : ℕ) (ns : List Named) (entry : List ℕ) (fits : Fits (values_in entry) isa ns (learned c)) where
  -- every fact that has the chunk fits
  fits-too : (own : Stands memory c) → Fits (values_in entry) isa ns own.fact
  fits-too own =
      record {
        typed = ap (λ (x : Chunk). x.isa) own.is ∙ fits.typed;
        valued = λ x h. ap (λ (y : Chunk). get_or y.slots x.slot 0) own.is ∙ fits.valued x h;
      }

  -- what is found is the fact that has it, or is found before it
  found-by : {j : ℕ} {f : Fact} → Retrieved memory (values_in entry) isa ns j f → (own : Stands memory c) → (f.chunk ≡ c) ⊎ Before f j own.fact own.place
  found-by {j} {f} r own =
      by-lt own.fact.activation f.activation (λ l. inr (inl l)) (λ l.
      let same : own.fact.activation ≡ f.activation = omega (arith, l, r.none_higher own.place own.fact own.numbered (fits-too own)) in
      by-lt j own.place (λ k. inr (inr (sym same, k))) (λ k.
      let e : own.place ≡ j = omega (arith, k, r.first_of_equals own.place own.fact own.numbered (fits-too own) same) in
      inl (ap (λ (x : Fact). x.chunk) (at_same r.numbered (subst (λ (x : ℕ). At own.fact x memory) e own.numbered)) ∙ own.is)))

  -- the chunk, or one found before every fact that has it
  own-or-before : {j : ℕ} {f : Fact} → Retrieved memory (values_in entry) isa ns j f → (f.chunk ≡ c) ⊎ ((own : Stands memory c) → Before f j own.fact own.place)
  own-or-before {j} {f} r = by (equal f.chunk c) refl
    where
      other : equal f.chunk c ≡ false → (own : Stands memory c) → (f.chunk ≡ c) ⊎ Before f j own.fact own.place → Before f j own.fact own.place
      other q own (inl e) = absurd (no_true (sym (equal-refl c) ∙ ap (λ (x : Chunk). equal x c) (sym e) ∙ q))
      other q own (inr b) = b

      by : (t : Bool) → equal f.chunk c ≡ t → (f.chunk ≡ c) ⊎ ((own : Stands memory c) → Before f j own.fact own.place)
      by true q = inl (equal-true f.chunk c q)
      by false q = inr (λ own. other q own (found-by r own))

pub recalled : (memory : List Fact) (c : Chunk) → Stands memory c → (isa : ℕ) (ns : List Named) (entry : List ℕ) → Fits (values_in entry) isa ns (learned c)
    → (j : ℕ) × (f : Fact) × (retrieve memory isa ns entry ≡ some f) × Retrieved memory (values_in entry) isa ns j f
    × ((f.chunk ≡ c) ⊎ ((own : Stands memory c) → Before f j own.fact own.place))
recalled memory c own isa ns entry fits = by (retrieve memory isa ns entry) refl
  where
    by : (o : Option Fact) → retrieve memory isa ns entry ≡ o
        → (j : ℕ) × (f : Fact) × (retrieve memory isa ns entry ≡ some f) × Retrieved memory (values_in entry) isa ns j f
        × ((f.chunk ≡ c) ⊎ ((own : Stands memory c) → Before f j own.fact own.place))
    by none e = absurd (nothing-here memory isa ns entry e own.place own.fact own.numbered (fits-too memory c isa ns entry fits own))
    by (some f) e = let r = found_here memory isa ns entry f e in (r.0, f, e, r.1, own-or-before memory c isa ns entry fits r.1)
