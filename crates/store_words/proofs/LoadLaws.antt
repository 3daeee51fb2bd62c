-- Laws of the places of a store laid on a tape: one row more, and the facts that plan and tape then know.
use Prim.Native.Nat.{ℕ, ◌+◌, ◌*◌, ◌≤◌, ◌<◌}
use mathlib.Core.Path.{◌≡◌, refl, sym, ap, ap₂, ◌∙◌, subst}
use mathlib.Core.Bool.{Bool, true, false}
use mathlib.Core.Option.{some}
use mathlib.Core.List.{List, [], ◌∷◌, ◌++◌, map, map-append}
use native.Mathlib.Omega.{arith}
use lib.ListN.{length, get_or, take, drop}
use lib.Seq.{sets, length-sets, drop-drop}
use borrow.Author.Tests.{eq-eqb, ne_eqb, le-leb, lt-leb}
use Rattle.meaning.specs.Base.{every}
use Rattle.meaning.specs.Model.{Fact}
use Rattle.meaning.specs.Learning.{learned}
use Rattle.meaning.specs.Store.{place_in, holdable, store_fits}
use Rattle.layout.specs.declared.Plan.{Plan}
use Rattle.layout.specs.Rows.{rows_in, fact_in, facts_in}
use Rattle.layout.specs.Plans.{types_on, Planned}
use Rattle.layout.specs.Growth.{with_facts, Extended}
use Rattle.layout.proofs.WordLaws.{sets-take, sets-drop}
use Rattle.layout.proofs.RowLaws.{rows_more, rows_same, fact-like, in-more, in-drop}
use Rattle.layout.proofs.KeptLaws.{begin-alike, drop-alike, follows}
use Rattle.layout.proofs.GrowthLaws.{extended-by}
use Rattle.std.specs.Prelude.{Result, Ok, Err}
use Rattle.meaning.specs.declared.reasons.Reason.{Reason}
use Rattle.meaning.specs.declared.reasons.Reason.TheVariants.{BadStore}
use Rattle.store_words.specs.Rows.{row_words, RowsLaid, PlacesMet}
use Rattle.store_words.specs.Loads.{LoadMet}
use Rattle.store_words.proofs.PlaceLaws.{store-row}

-- ---- rows

-- the row of a place says the fact that is learned of it
row-fact : (store : List ℕ) (i : ℕ) → fact_in (row_words (place_in store i)) 0 ≡ learned (place_in store i)
row-fact store i = refl

pub rows_none : (own : ℕ) (tape store : List ℕ) → RowsLaid own tape tape store 0
unfolding rows_in
rows_none own tape store = record { as_long = refl; below = refl; above = refl; laid = refl }

-- one row more
pub rows_next : (own : ℕ) (tape tape' tape'' store : List ℕ) (i : ℕ) → 152 + 11 * (own + i) + 11 ≤ length tape → RowsLaid own tape tape' store i
    → tape'' ≡ sets tape' (152 + 11 * (own + i)) (row_words (place_in store i)) → RowsLaid own tape tape'' store (i + 1)
rows_next own tape tape' tape'' store i room done e =
    let row : List ℕ = row_words (place_in store i) in
    let q : ℕ = 152 + 11 * (own + i) in
    let o : ℕ = 152 + 11 * own in
    let at : q ≡ o + 11 * i = omega arith in
    let z : 0 + i ≡ i = omega arith in
    let long = done.as_long in
    record {
      as_long = ap length e ∙ length-sets tape' q row ∙ done.as_long;
      below = ap (take o) e ∙ sets-take o tape' q row (omega arith) ∙ done.below;
      above = ap (drop (152 + 11 * (own + (i + 1)))) e ∙ sets-drop (152 + 11 * (own + (i + 1))) tape' q row (omega arith)
          ∙ drop-alike q (152 + 11 * (own + (i + 1))) tape tape' (omega arith) done.above;
      laid =
          ap (λ (w : List ℕ). rows_in (λ k. fact_in w (o + 11 * k)) 0 (i + 1)) (e ∙ ap (λ (k : ℕ). sets tape' k row) at)
          ∙ in-more fact_in fact-like tape' o i row refl (omega arith)
          ∙ ap₂ (λ (l : List Fact) (f : Fact). l ++ (f ∷ [])) done.laid (row-fact store i)
          ∙ sym (map-append learned (rows_in (place_in store) 0 i) (place_in store i ∷ []))
          ∙ ap (map learned) (ap (λ (k : ℕ). rows_in (place_in store) 0 i ++ (place_in store k ∷ [])) (sym z) ∙ sym (rows_more (place_in store) 0 i));
    }

-- while rows are laid, the types stay
pub types-stay : (own : ℕ) (tape tape' store : List ℕ) (i n : ℕ) → n ≤ 152 → RowsLaid own tape tape' store i → take n tape' ≡ take n tape
types-stay own tape tape' store i n h done = begin-alike n (152 + 11 * own) tape tape' (omega arith) done.below

-- ---- a store that was looked at

-- the facts of the rows, as a plan reads them that knows them
rows-added : (tape : List ℕ) (own n : ℕ) → facts_in (drop (11 * own) (drop 152 tape)) n ≡ rows_in (λ i. fact_in tape (152 + 11 * own + 11 * i)) 0 n
rows-added tape own n =
    ap (λ (w : List ℕ). facts_in w n) (drop-drop (11 * own) 152 tape)
    ∙ rows_same (λ k. fact_in (drop (152 + 11 * own) tape) (11 * k)) (λ k. fact_in (drop (152 + 11 * own) tape) (0 + 11 * k)) 0 n
    (λ k a b. ap (fact_in (drop (152 + 11 * own) tape)) (omega arith))
    ∙ in-drop fact_in fact-like tape (152 + 11 * own) 0 (152 + 11 * own) n (omega arith)

module _ (p : Plan) (tape store : List ℕ) where
  pub load-long : (tape' : List ℕ) → (length store ≡ 2305 → ⊥) → LoadMet (Err BadStore) p tape tape' store
  unfolding store_fits
  load-long tape' h = record { judged = rw (ne_eqb (length store) 2305 h); loaded = tt; refused = refl }

  module _ (long : length store ≡ 2305) where
    pub load_many : (tape' : List ℕ) → 256 < get_or store 0 0 → LoadMet (Err BadStore) p tape tape' store
    unfolding store_fits
    load_many tape' h = record { judged = rw (eq-eqb (length store) 2305 long, lt-leb (get_or store 0 0) 256 h); loaded = tt; refused = refl }

    module _ (few : get_or store 0 0 ≤ 256) (placed : Bool) (tape' : List ℕ) (met : PlacesMet placed p tape tape' store (get_or store 0 0)) where
      fitting : placed ≡ store_fits (types_on p tape) (some store)
      unfolding store_fits
      fitting = met.judged ∙ ap (every (holdable (types_on p tape))) (sym (store-row store)) ∙ rw (eq-eqb (length store) 2305 long, le-leb (get_or store 0 0) 256 few)

      pub load-bad : placed ≡ false → (r : Result Plan Reason) → r ≡ Err BadStore → LoadMet r p tape tape' store
      load-bad bad r e = rw e record { judged = sym bad ∙ fitting; loaded = tt; refused = refl }

      pub load-met : Planned p tape → p.places ≡ p.facts + 256 → placed ≡ true → LoadMet (Ok (with_facts p (p.facts + get_or store 0 0))) p tape tape' store
      load-met planned room good =
          let n : ℕ = get_or store 0 0 in
          let f = follows planned in
          let laid = met.laid good in
          let apart = drop-alike (152 + 11 * (p.facts + n)) p.heads tape tape' (omega arith) laid.above in
          let is = rows-added tape' p.facts n ∙ laid.laid ∙ ap (map learned) (sym (store-row store)) in
          record {
            judged = sym good ∙ fitting;
            loaded = subst (λ (fs : List Fact). Extended p tape (with_facts p (p.facts + n)) tape' fs) is (extended-by p tape tape' planned n (omega arith) laid.as_long laid.below apart);
            refused = tt;
          }
