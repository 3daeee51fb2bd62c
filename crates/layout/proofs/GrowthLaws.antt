-- More facts on a tape, in rows after those that a plan knows of: what they do not touch stays, and the model has them after its own.
use Prim.Native.Nat.{ℕ, zero, suc, ◌+◌, ◌*◌, ◌≤◌}
use mathlib.Core.Path.{◌≡◌, refl, sym, ap, ap₂, ◌∙◌, subst}
use mathlib.Core.List.{List, [], ◌∷◌, ◌++◌, append-nil, append_assoc}
use native.Mathlib.Omega.{arith}
use lib.ListN.{length, take, drop, length-append}
use lib.Seq.{get_or-drop}
use Rattle.meaning.specs.Model.{Model, Fact}
use Rattle.meaning.specs.Calls.{open_state}
use Rattle.layout.specs.declared.Plan.{Plan}
use Rattle.layout.specs.Rows.{rows_in, fact_in, facts_in}
use Rattle.layout.specs.Plans.{facts_on, model_on, Planned}
use Rattle.layout.specs.Growth.{with_facts, with_more, Extended}
use Rattle.layout.proofs.RowLaws.{rows-length, Alike, fact-like}
use Rattle.layout.proofs.KeptLaws.{facts-kept, Stays, stays-apart, model-kept, planned-kept}

-- ---- rows of any kind, one part after the other

module _ {A : Type 0} where
  -- n rows, and then the others
  pub rows-two : (f : ℕ → A) (i n m : ℕ) → rows_in f i (n + m) ≡ rows_in f i n ++ rows_in f (i + n) m
  unfolding rows_in
  rows-two f i zero m =
      let e : i + 0 ≡ i = omega arith in
      let g : 0 + m ≡ m = omega arith in
      rw (e, g)
  rows-two f i (suc n) m =
      let e : suc n + m ≡ suc (n + m) = omega arith in
      let g : i + suc n ≡ i + 1 + n = omega arith in
      rw (e, g) (ap (λ (l : List A). f i ∷ l) (rows-two f (i + 1) n m))

  -- rows from n on are rows from the start of what is read n further on
  pub rows-from : (f g : ℕ → A) (i n m : ℕ) → ((k : ℕ) → f (n + k) ≡ g k) → rows_in f (n + i) m ≡ rows_in g i m
  unfolding rows_in
  rows-from f g i n zero h = refl
  rows-from f g i n (suc m) h =
      let e : n + i + 1 ≡ n + (i + 1) = omega arith in
      rw e (ap₂ (λ (x : A) (l : List A). x ∷ l) (h i) (rows-from f g (i + 1) n m h))

-- facts of words, and then those of the words after them
pub facts-two : (w : List ℕ) (n m : ℕ) → facts_in w (n + m) ≡ facts_in w n ++ facts_in (drop (11 * n) w) m
facts-two w n m =
    let z : 0 + n ≡ n + 0 = omega arith in
    rows-two (λ k. fact_in w (11 * k)) 0 n m
    ∙ ap (λ (i : ℕ). facts_in w n ++ rows_in (λ k. fact_in w (11 * k)) i m) z
    ∙ ap (λ (l : List Fact). facts_in w n ++ l) (rows-from (λ k. fact_in w (11 * k)) (λ k. fact_in (drop (11 * n) w) (11 * k)) 0 n m
    (λ k. fact-like w (drop (11 * n) w) (11 * (n + k)) (11 * k) (λ j l. let s : 11 * n + (11 * k + j) ≡ 11 * (n + k) + j = omega arith in rw (get_or-drop, s))))

-- ---- rows written after the facts and before the chains, or anywhere before the heads

module _ (p : Plan) (tape tape' : List ℕ) (planned : Planned p tape) (n : ℕ) (fit : p.facts + n ≤ p.places) (as_long : length tape' ≡ length tape)
    (begins : take (152 + 11 * p.facts) tape' ≡ take (152 + 11 * p.facts) tape) (apart : drop p.heads tape' ≡ drop p.heads tape) where
  abbrev more : Plan
  more = with_facts p (p.facts + n)

  abbrev added : List Fact
  added = facts_in (drop (11 * p.facts) (drop 152 tape')) n

  stays : Stays p tape tape'
  stays = stays-apart p tape tape' planned as_long begins apart

  facts-more : facts_on more tape' ≡ facts_on p tape ++ added
  facts-more = facts-two (drop 152 tape') p.facts n ∙ ap (λ (l : List Fact). l ++ added) (facts-kept p tape tape' begins)

  model-more : model_on more tape' ≡ with_more (model_on p tape) added
  unfolding model_on
  model-more =
      let kept = model-kept p tape tape' planned stays in
      ap₂ (λ (m : Model) (fs : List Fact). record { buffers = m.buffers; types = m.types; failure = m.failure; opening = m.opening; facts = fs; rules = m.rules }) kept facts-more

  opening-alike : open_state (model_on p tape') ≡ open_state (model_on more tape')
  unfolding model_on open_state
  opening-alike = refl

  planned-more : Planned more tape'
  planned-more =
      let kept = planned-kept p tape tape' planned stays in
      record {
        starts = ap (λ (q : Plan). with_facts q (p.facts + n)) planned.starts;
        room = kept.room;
        some_buffers = kept.some_buffers;
        most_buffers = kept.most_buffers;
        most_declared = kept.most_declared;
        facts_placed = fit;
        most_places = kept.most_places;
        small = kept.small;
        laid = kept.laid;
        opens = kept.opens ∙ opening-alike;
      }

  -- the facts that stand there now, whatever they are
  pub extended-by : Extended p tape more tape' added
  extended-by =
      record {
        plan = ap (λ (k : ℕ). with_facts p (p.facts + k)) (sym (rows-length (λ k. fact_in (drop (11 * p.facts) (drop 152 tape')) (11 * k)) 0 n));
        planned = planned-more;
        model = model-more;
        above = apart;
      }

-- ---- one row: the eleven words of a fact after the others

module _ (p : Plan) (tape tape' : List ℕ) (planned : Planned p tape) (fit : p.facts + 1 ≤ p.places) (as_long : length tape' ≡ length tape)
    (begins : take (152 + 11 * p.facts) tape' ≡ take (152 + 11 * p.facts) tape) (apart : drop p.heads tape' ≡ drop p.heads tape) where
  pub extended-by-row : (row : List ℕ) (o : ℕ) → Alike tape' (152 + 11 * p.facts) row o → Extended p tape (with_facts p (p.facts + 1)) tape' (fact_in row o ∷ [])
  unfolding rows_in
  extended-by-row row o like =
      let there : List ℕ = drop (11 * p.facts) (drop 152 tape') in
      let same : Alike there (11 * 0) row o = λ j l. let s : 152 + (11 * p.facts + (11 * 0 + j)) ≡ 152 + 11 * p.facts + j = omega arith in rw (get_or-drop, get_or-drop, s) (like j l) in
      subst (λ (fs : List Fact). Extended p tape (with_facts p (p.facts + 1)) tape' fs)
      (ap (λ (f : Fact). f ∷ []) (fact-like there row (11 * 0) o same)) (extended-by p tape tape' planned 1 fit as_long begins apart)

-- ---- no facts, and facts upon facts

pub extended_none : (p : Plan) (tape : List ℕ) → Planned p tape → Extended p tape p tape []
extended_none p tape planned =
    let z : p.facts + 0 ≡ p.facts = omega arith in
    record {
      plan = ap (with_facts p) (sym z);
      planned = planned;
      model = let m : Model = model_on p tape in
          ap (λ (fs : List Fact). record { buffers = m.buffers; types = m.types; failure = m.failure; opening = m.opening; facts = fs; rules = m.rules }) (sym (append-nil m.facts));
      above = refl;
    }

module _ (p : Plan) (tape : List ℕ) (p' : Plan) (tape' : List ℕ) (p'' : Plan) (tape'' : List ℕ) (new later : List Fact) where
  pub extended-on : Extended p tape p' tape' new → Extended p' tape' p'' tape'' later → Extended p tape p'' tape'' (new ++ later)
  extended-on first then =
      let facts : p'.facts ≡ p.facts + length new = ap (λ (q : Plan). q.facts) first.plan in
      let heads : p'.heads ≡ p.heads = ap (λ (q : Plan). q.heads) first.plan in
      let many : p'.facts + length later ≡ p.facts + length (new ++ later) = omega (arith, length-append new later) in
      let m : Model = model_on p tape in
      record {
        plan = then.plan ∙ ap₂ (λ (q : Plan) (n : ℕ). with_facts q n) first.plan many;
        planned = then.planned;
        model = then.model ∙ ap (λ (m : Model). with_more m later) first.model
            ∙ ap (λ (fs : List Fact). record { buffers = m.buffers; types = m.types; failure = m.failure; opening = m.opening; facts = fs; rules = m.rules })
            (append_assoc m.facts new later);
        above = ap (λ (o : ℕ). drop o tape'') (sym heads) ∙ then.above ∙ ap (λ (o : ℕ). drop o tape') heads ∙ first.above;
      }
