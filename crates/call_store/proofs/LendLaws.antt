-- A store that is taken in is known, and what is known at the end is what is given back.
use Rattle.std.specs.Prelude.{if◌then◌else◌}
use Prim.Native.Nat.{ℕ, ◌+◌, ◌≤◌}
use mathlib.Core.Path.{◌≡◌, refl, sym, ap, ◌∙◌, subst}
use mathlib.Core.Bool.{Bool, true, false, ◌&&◌}
use mathlib.Core.List.{List, ◌++◌, map}
use mathlib.Core.Option.{some}
use native.Mathlib.Omega.{arith}
use borrow.Author.Tests.{eqb-true, leb-true}
use lib.Dec.{eqb, leb}
use lib.ListN.{length, get_or, length-append, length-map}
use Rattle.meaning.specs.Base.{every}
use Rattle.meaning.specs.Model.{Model, Chunk, Fact}
use Rattle.meaning.specs.Mark.{is_some}
use Rattle.meaning.specs.Learning.{learned}
use Rattle.meaning.specs.Store.{store_in, holdable, store_fits, store_of, store_left}
use Rattle.laws.specs.BaseLaws.{no_true, and_left, and_right}
use Rattle.laws.specs.StoreLaws.{extend}
use Rattle.layout.specs.declared.Plan.{Plan}
use Rattle.layout.specs.Plans.{places_for, facts_on, model_on, Planned}
use Rattle.layout.specs.Growth.{with_more, Extended}
use Rattle.step_learn.specs.Knows.{Knows}
use Rattle.std.specs.Prelude.{Result, Ok, Err}
use Rattle.meaning.specs.declared.reasons.Reason.{Reason}
use Rattle.store_words.specs.Loads.{LoadMet, learned_on}
use Rattle.store_words.proofs.StoreLaws.{store_length}
use Rattle.store_words.proofs.BackLaws.{learned-are, back_count, back-store}
use Rattle.call_store.specs.Lending.{lent_if, TakenIn, Backing}

-- ---- taken in

-- no store is lent: the model knows its own facts
pub nothing_lent : (p : Plan) (tape store : List ℕ) → Planned p tape → p.learns ≡ false → TakenIn (Ok p) p tape tape store
unfolding store_fits
nothing_lent p tape store planned e =
    record {
      judged = rw e refl;
      planned = planned;
      rules = refl;
      knows = subst (λ (b : Bool). Knows p tape (model_on p tape) (store_of (lent_if b store))) (sym e)
          (record { means = refl; lends = e; places = λ cs z. absurd (no_true (sym (ap is_some z))) });
      refused = tt;
    }

module _ (p : Plan) (tape tape' store : List ℕ) (planned : Planned p tape) (places : p.places ≡ places_for p.facts p.learns) (e : p.learns ≡ true) where
  -- 256 places
  room : p.places ≡ p.facts + 256
  room = places ∙ ap (places_for p.facts) e

  known : (q : Plan) (new : List Fact) (cs : List Chunk) → new ≡ map learned cs → Extended p tape q tape' new → Knows q tape' (model_on p tape) (some cs)
  known q new cs is extended =
      record {
        means = extended.model ∙ ap (with_more (model_on p tape)) is;
        lends = ap (λ (q : Plan). q.learns) extended.plan ∙ e;
        places = λ all z.
            let same : cs ≡ all = cc in
            let size = ap length same in
            let many = ap length is ∙ length-map cs learned in
            let after = ap (λ (q : Plan). q.facts) extended.plan in
            let there = ap (λ (q : Plan). q.places) extended.plan in
            omega (arith, room);
      }

  pub store-taken : (r : Result Plan Reason) → LoadMet r p tape tape' store → TakenIn r p tape tape' store
  store-taken (Ok q) met =
      record {
        judged = rw e met.judged;
        planned = met.loaded.planned;
        rules = ap (λ (q : Plan). q.rules) met.loaded.plan;
        knows = subst (λ (b : Bool). Knows q tape' (model_on p tape) (store_of (lent_if b store))) (sym e) (known q _ (store_in store) refl met.loaded);
        refused = tt;
      }
  store-taken (Err why) met = record { judged = rw e met.judged; planned = tt; rules = tt; knows = tt; refused = met.refused }

-- ---- given back

-- a store that fits has 2,305 words, and a count of at most 256
store_long : (types store : List ℕ) → store_fits types (some store) ≡ true → (length store ≡ 2305) × (get_or store 0 0 ≤ 256)
unfolding store_fits
store_long types store fits =
    let rest = and_left (eqb (length store) 2305 && leb (get_or store 0 0) 256) (every (holdable types) (store_in store)) fits in
    (eqb-true _ _ (and_left (eqb (length store) 2305) (leb (get_or store 0 0) 256) rest), leb-true _ _ (and_right (eqb (length store) 2305) (leb (get_or store 0 0) 256) rest))

module _ (p known : Plan) (tape store : List ℕ) (m : Model) (planned : Planned known tape) (own : length m.facts ≡ p.facts)
    (fits : store_fits m.types (lent_if p.learns store) ≡ true) (more : List Chunk) (knows : Knows known tape m (extend (store_of (lent_if p.learns store)) more)) where
  -- the facts on the tape: the image's, the store's, and what was learned
  stand : p.learns ≡ true → facts_on known tape ≡ m.facts ++ map learned (store_in store ++ more)
  unfolding model_on
  stand e = let k : Knows known tape m (some (store_in store ++ more)) = rw e at knows in ap (λ (x : Model). x.facts) k.means

  pub backing : p.learns ≡ true → Backing known tape store p.facts
  backing e =
      let k : Knows known tape m (some (store_in store ++ more)) = rw e at knows in
      let f : store_fits m.types (some store) ≡ true = rw e at fits in
      let long = store_long m.types store f in
      let count = back_count known tape m.facts p.facts own store (get_or store 0 0) refl more (stand e) in
      let many = k.places (store_in store ++ more) refl in
      let size = length-append (store_in store) more in
      record {
        long = long.0;
        first = omega (arith, count);
        last = omega (arith, count, many, size, store_length store, planned.facts_placed);
        begins = back-store known tape m.facts p.facts own store (get_or store 0 0) refl more (stand e);
      }

  pub given_back : (if p.learns then store_left store (some (learned_on known tape p.facts)) else store) ≡ store_left store (extend (store_of (lent_if p.learns store)) more)
  unfolding store_left
  given_back = by p.learns refl
    where
      by : (b : Bool) → p.learns ≡ b → (if b then store_left store (some (learned_on known tape p.facts)) else store) ≡ store_left store (extend (store_of (lent_if b store)) more)
      by true e = ap (λ (cs : List Chunk). store_left store (some cs)) (learned-are known tape m.facts p.facts own (store_in store ++ more) (stand e))
      by false e = refl
