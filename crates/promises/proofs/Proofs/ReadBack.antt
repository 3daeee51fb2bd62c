-- The store that a run leaves stands in the words that it leaves.
use Rattle.std.specs.Prelude.{if◌then◌else◌, ◌≡◌, refl, Bool, List, ◌++◌, ℕ, eqb, length}
use Rattle.std.proofs.Math.Path.{sym}
use Rattle.std.proofs.Common.{ap, subst, ◌∙◌}
use Rattle.std.proofs.Math.Bool.{true, false}
use Rattle.std.proofs.Math.Option.{Option, none, some}
use Rattle.meaning.specs.declared.State.{State}
use Rattle.meaning.specs.Base.{bit}
use Rattle.meaning.specs.Model.{Model, Chunk}
use Rattle.meaning.specs.State.{well_formed}
use Rattle.meaning.specs.Read.{read_got}
use Rattle.meaning.specs.Image.{decode}
use Rattle.meaning.specs.Match.{fresh_table}
use Rattle.meaning.specs.Step.{Event}
use Rattle.meaning.specs.Learning.{knowing, adds, store_after}
use Rattle.meaning.specs.Store.{lent_by, store_fits, store_of, store_left}
use Rattle.meaning.specs.Run.{Going, going, run_from}
use Rattle.meaning.specs.Calls.{trace_lent}
use Rattle.meaning.specs.Fresh.{fresh_trace_lent}
use Rattle.laws.specs.BaseLaws.{and_left}
use Rattle.laws.specs.MatchLaws.{fresh-length}
use Rattle.promises.specs.Words.{is_word, Machine}
use Rattle.promises.specs.Sentences.{Taken}
use Rattle.promises.proofs.Proofs.Decoded.{all-weaken}
use Rattle.promises.proofs.Proofs.Placed.{decode-short}
use Rattle.promises.proofs.Proofs.Chains.{run-keeps}
use Rattle.promises.proofs.Proofs.Numbers.{accepted-taken, taken-accepted}
use Rattle.promises.proofs.Proofs.Machines.{chunk_fit, StoreFit, Sound, fit, lent-fit, known-sound}
use Rattle.promises.proofs.Proofs.Lending.{along, none_kept}
use Rattle.promises.proofs.Proofs.Afresh.{call-as-kept}
use Rattle.promises.proofs.Proofs.Stored.{left-reads}

record Stored (store : Option (List Chunk)) : Type 0 where
  chunks : List Chunk
  is : store ≡ some chunks

still-stored : (m : Model) (s : State) (e : Event) (store : Option (List Chunk)) → Stored store → Stored (store_after m s e store)
still-stored m s e store h = record { chunks = h.chunks ++ adds (knowing m (some h.chunks)) s e; is = ap (store_after m s e) h.is }

reads-back : (m : Model) (words : List ℕ) (store : Option (List Chunk)) → Stored store → StoreFit m store → store_of (some (store_left words store)) ≡ store
reads-back m words store h f =
    let g : StoreFit m (some h.chunks) = subst (StoreFit m) h.is f in
    let nine = all-weaken chunk_fit (λ (c : Chunk). eqb (length c.slots) 8) (λ c e. and_left (eqb (length c.slots) 8) (is_word c.isa) e) h.chunks g.0 in
    rw h.is (ap (λ (cs : List Chunk). some cs) (left-reads words h.chunks nine))

module _ (image : List ℕ) (m : Model) (s : State) (steps : ℕ) (well : well_formed m s ≡ true) (machine : Machine s) (words : List ℕ) where
  went_back : (end : ℕ) → decode image ≡ read_got m end → (table : List ℕ) → store_fits m.types (some words) ≡ true
      → let left : Option (List Chunk) = (run_from m steps (going s table (store_of (some words)))).left.store in store_of (some (store_left words left)) ≡ left
  went_back end d table f =
      let g : Going = going s table (store_of (some words)) in
      reads-back m words (run_from m steps g).left.store
      (along m Stored (λ x e store h o. still-stored m x e store h) steps g (record { chunks = _; is = refl }))
      (run-keeps m (λ x t. Sound m x) (StoreFit m) (known-sound image m end d) steps g (record { well = well; machine = machine }, lent-fit m (fit image m end d) (some words) f)).1

  module _ (lent : ℕ) (fits : store_fits m.types (lent_by lent words) ≡ true) where
    pub kept_back : (table : List ℕ) → Taken image table m
        → let left : Option (List Chunk) = (trace_lent image s table steps (lent_by lent words)).left.store in store_of (lent_by lent (store_left words left)) ≡ left
    unfolding trace_lent
    kept_back table taken = by (bit lent 0) fits
      where
        by : (b : Bool) → store_fits m.types (if b then some words else none) ≡ true
            → let left : Option (List Chunk) = (trace_lent image s table steps (if b then some words else none)).left.store in store_of (if b then some (store_left words left) else none) ≡ left
        by true h = rw (taken-accepted image table taken, well, h) (went_back taken.end (decode-short image taken.short ∙ taken.reads) table h)
        by false h = sym (none_kept image s steps table)

    pub freed-back : (end : ℕ) → decode image ≡ read_got m end
        → let left : Option (List Chunk) = (fresh_trace_lent image s steps (lent_by lent words)).left.store in store_of (lent_by lent (store_left words left)) ≡ left
    freed-back end d =
        let table : List ℕ = fresh_table m.rules s in
        let taken : Taken image table m = accepted-taken image table m end d (fresh-length m.rules s) in
        subst (λ (x : Option (List Chunk)). store_of (lent_by lent (store_left words x)) ≡ x) (sym (call-as-kept image s steps (lent_by lent words) m end d).same_store) (kept_back table taken)
