-- What a step adds, by the tape and by the store: the same chunks, and the same answer to whether they have places.
use Rattle.std.specs.Prelude.{if◌then◌else◌}
use Prim.Native.Nat.{ℕ, zero, suc, ◌+◌, ◌*◌, ◌≤◌, ◌<◌}
use mathlib.Core.Path.{◌≡◌, refl, sym, ap, ◌∙◌}
use mathlib.Core.Bool.{Bool}
use mathlib.Core.List.{List, [], ◌∷◌, ◌++◌, map}
use mathlib.Core.Option.{Option, none, some}
use native.Mathlib.Omega.{arith}
use borrow.Author.Tests.{lt-ltb, le-ltb}
use lib.Dec.{ltb}
use lib.ListN.{length, get_or, length-append, length-map}
use Rattle.meaning.specs.declared.State.{State}
use Rattle.meaning.specs.Model.{Model, Chunk, Action, Rule}
use Rattle.meaning.specs.Step.{Event, event_fired}
use Rattle.meaning.specs.Learning.{learned, knowing, chunks_of, cleared, joining, actions_of, adds, store_after, overfull}
use Rattle.laws.specs.BaseLaws.{by-lt}
use Rattle.layout.specs.declared.Plan.{Plan}
use Rattle.layout.specs.Rows.{rows_in, fact_in, rule_in, rules_in}
use Rattle.layout.specs.StateWords.{buffers_in, state_in}
use Rattle.layout.specs.Plans.{facts_on, heads_on, rows_on, model_on, Planned}
use Rattle.layout.proofs.RowLaws.{rows_get, rows-length}
use Rattle.step_learn.specs.Joins.{joins_on, adds_on, no_place, Collected}
use Rattle.step_learn.specs.Knows.{Knows}

-- the actions of rule k among rules in heads and rows
rows-map : {A B : Type 0} (f : A → B) (thing : ℕ → A) (i n : ℕ) → map f (rows_in thing i n) ≡ rows_in (λ j. f (thing j)) i n
unfolding rows_in
rows-map f thing i zero = refl
rows-map {A} {B} f thing i (suc n) = ap (λ (l : List B). f (thing i) ∷ l) (rows-map f thing (i + 1) n)

actions-of : (heads words : List ℕ) (n k : ℕ) → k < n → actions_of (rules_in heads words n) k ≡ (rule_in heads words k).actions
actions-of heads words n k h =
    let e : 0 + k ≡ k = omega arith in
    ap (λ (l : List (List Action)). get_or l k []) (rows-map (λ (r : Rule). r.actions) (rule_in heads words) 0 n)
    ∙ rows_get (λ j. (rule_in heads words j).actions) 0 n k [] h ∙ ap (λ (j : ℕ). (rule_in heads words j).actions) e

-- what the firing of rule k adds
pub joins-adds : (p : Plan) (tape w : List ℕ) (clock k : ℕ) → k < p.rules → joins_on p tape w k ≡ adds_on p tape (state_in w clock) (event_fired k)
unfolding model_on
joins-adds p tape w clock k h =
    ap (λ (as' : List Action). if p.learns then joining (chunks_of (facts_on p tape)) (cleared as' 0 (buffers_in w)) else [])
    (sym (actions-of (heads_on p tape) (rows_on p tape) p.rules k h))

-- rows that were collected are as many as the chunks, and so they tell whether these have places
pub collected-many : (news : List ℕ) (n : ℕ) (chunks : List Chunk) → Collected news n chunks → n ≡ length chunks
collected-many news n chunks collected =
    sym (rows-length (λ k. fact_in news (11 * k)) 0 n) ∙ ap length collected.rows ∙ length-map chunks learned

pub no-place-is : (p : Plan) (tape w news : List ℕ) (clock k n : ℕ) → k < p.rules → Collected news n (joins_on p tape w k)
    → no_place p tape (state_in w clock) (event_fired k) ≡ ltb p.places (p.facts + n)
no-place-is p tape w news clock k n h collected =
    let many = collected-many news n (joins_on p tape w k) collected in
    ap (λ (l : List Chunk). ltb p.places (p.facts + length l)) (sym (joins-adds p tape w clock k h)) ∙ ap (λ (i : ℕ). ltb p.places (p.facts + i)) (sym many)

-- ---- what the tape has no place for is what would make more than 256

module _ (p : Plan) (tape : List ℕ) (m : Model) (s : State) (e : Event) (planned : Planned p tape) where
  -- what is added is what the store knows nothing of
  pub adds_same : (cs : List Chunk) → Knows p tape m (some cs) → adds_on p tape s e ≡ adds (knowing m (some cs)) s e
  adds_same cs knows = ap (λ (b : Bool). if b then adds (model_on p tape) s e else []) knows.lends ∙ ap (λ (x : Model). adds x s e) knows.means

  pub adds-nothing : Knows p tape m none → adds_on p tape s e ≡ []
  adds-nothing knows = ap (λ (b : Bool). if b then adds (model_on p tape) s e else []) knows.lends

  pub room-same : (store : Option (List Chunk)) → Knows p tape m store → no_place p tape s e ≡ overfull (store_after m s e store)
  room-same none knows =
      let fits : p.facts + 0 ≤ p.places = omega (arith, planned.facts_placed) in
      ap (λ (cs : List Chunk). ltb p.places (p.facts + length cs)) (adds-nothing knows) ∙ le-ltb p.places (p.facts + 0) fits
  room-same (some cs) knows =
      let new = adds (knowing m (some cs)) s e in
      let long = length-append cs new in
      let many = knows.places cs refl in
      ap (λ (l : List Chunk). ltb p.places (p.facts + length l)) (adds_same cs knows)
      ∙ by-lt 256 (length (cs ++ new))
      (λ h. lt-ltb p.places (p.facts + length new) (omega arith) ∙ sym (lt-ltb 256 (length (cs ++ new)) h))
      (λ h. le-ltb p.places (p.facts + length new) (omega arith) ∙ sym (le-ltb 256 (length (cs ++ new)) h))
