-- What stands on a tape stays while words after it are written, and so does the model that it means.
use Prim.Native.Nat.{ℕ, ◌+◌, ◌-◌, ◌*◌, ◌≤◌, ◌<◌}
use mathlib.Core.Path.{◌≡◌, refl, sym, ap, ap₂, ◌∙◌, subst}
use mathlib.Core.List.{List, map}
use native.Mathlib.Omega.{arith}
use lib.ListN.{length, get_or, take, drop, length-drop}
use lib.Seq.{sets, drop-drop, take-take, get_or-take, get_or-drop, length-take-le}
use Rattle.meaning.specs.declared.Buffer.{Buffer}
use Rattle.meaning.specs.declared.State.{State}
use Rattle.meaning.specs.Model.{Model, Chunk, Fact, Test, Query, Action, Rule}
use Rattle.meaning.specs.Base.{bit}
use Rattle.meaning.specs.Image.{utility_of}
use Rattle.meaning.specs.Learning.{chunk_of}
use Rattle.meaning.specs.Calls.{open_state}
use Rattle.laws.specs.RefreshLaws.{looks_at}
use Rattle.layout.specs.declared.Plan.{Plan}
use Rattle.layout.specs.Walks.{Small}
use Rattle.layout.specs.Rows.{fact_in, test_in, action_in, tests_in, actions_in, rule_in, rules_in, query_by, queries_at, Laid}
use Rattle.layout.specs.StateWords.{buffer_in, buffers_in, state_in}
use Rattle.layout.specs.Plans.{types_on, opening_on, facts_on, heads_on, rows_on, rules_on, model_on, Planned}
use Rattle.layout.proofs.WordLaws.{below_get, sets-at}
use Rattle.layout.proofs.RowLaws.{rows_same, in-same, fact-like, test-like, action-like}
use Rattle.layout.proofs.StateLaws.{buffer-like}
use Rattle.layout.proofs.PlanLaws.{sections}

-- ---- words that are alike

-- the first m words are the same
abbrev pub SameTo : ℕ → List ℕ → List ℕ → Type 0
SameTo m w w' = (j : ℕ) → j < m → get_or w' j 0 ≡ get_or w j 0

-- two lists that begin alike
pub begin-alike : (m o : ℕ) (w w' : List ℕ) → m ≤ o → take o w' ≡ take o w → take m w' ≡ take m w
begin-alike m o w w' h e = sym (take-take m o w' h) ∙ ap (take m) e ∙ take-take m o w h

-- two lists that end alike
pub drop-alike : (m o : ℕ) (w w' : List ℕ) → m ≤ o → drop m w' ≡ drop m w → drop o w' ≡ drop o w
drop-alike m o w w' h e =
    let on : m + (o - m) ≡ o = omega arith in
    ap (λ (i : ℕ). drop i w') (sym on) ∙ sym (drop-drop (o - m) m w') ∙ ap (drop (o - m)) e ∙ drop-drop (o - m) m w ∙ ap (λ (i : ℕ). drop i w) on

-- words of a list that begins as another does
pub same-below : (r m : ℕ) (w w' : List ℕ) → take (r + m) w' ≡ take (r + m) w → SameTo m (drop r w) (drop r w')
same-below r m w w' e j h = rw (get_or-drop, get_or-drop) (below_get (r + m) w w' e (r + j) (omega arith))

-- the first m words of a list, written from q on, stand there
pub same-written : (w w' own : List ℕ) (q m : ℕ) → m ≤ length own → q + m ≤ length w → w' ≡ sets w q (take m own) → SameTo m own (drop q w')
same-written w w' own q m h room e j l =
    let long : length (take m own) ≡ m = length-take-le m own h in
    ap (λ (v : List ℕ). get_or (drop q v) j 0) e
    ∙ get_or-drop q (sets w q (take m own)) j 0 ∙ sets-at w q (take m own) j (omega arith) (omega arith) ∙ get_or-take m own j 0 l

-- ---- while words from 152 on are written, types and opening stay

module _ (p : Plan) (tape tape' : List ℕ) (kept : take 152 tape' ≡ take 152 tape) where
  pub types-kept : p.declared + 1 ≤ 64 → types_on p tape' ≡ types_on p tape
  types-kept h = begin-alike (p.declared + 1) 152 tape tape' (omega arith) kept

  buffers-kept : buffers_in (drop 64 tape') ≡ buffers_in (drop 64 tape)
  buffers-kept =
      rows_same (buffer_in (drop 64 tape')) (buffer_in (drop 64 tape)) 0 8
      (λ k a b. buffer-like (drop 64 tape') (drop 64 tape) k (λ j l. same-below 64 88 tape tape' kept (11 * k + j) (omega arith)))

  pub state-kept : state_in (drop 64 tape') 0 ≡ state_in (drop 64 tape) 0
  state-kept = ap (λ (bs : List Buffer). record { buffers = bs; clock = 0 }) buffers-kept

  pub opening-kept : opening_on p tape' ≡ opening_on p tape
  opening-kept = ap (λ (bs : List Buffer). map chunk_of (take p.buffers bs)) buffers-kept

-- ---- facts stay while words from their end on are written

pub facts-kept : (p : Plan) (tape tape' : List ℕ) → take (152 + 11 * p.facts) tape' ≡ take (152 + 11 * p.facts) tape → facts_on p tape' ≡ facts_on p tape
facts-kept p tape tape' kept =
    rows_same (λ k. fact_in (drop 152 tape') (11 * k)) (λ k. fact_in (drop 152 tape) (11 * k)) 0 p.facts
    (λ k a b. fact-like (drop 152 tape') (drop 152 tape) (11 * k) (11 * k) (λ j l. same-below 152 (11 * p.facts) tape tape' kept (11 * k + j) (omega arith)))

-- ---- rules in heads and rows that are alike

module _ (heads heads' words words' : List ℕ) (n : ℕ) (laid : Laid heads words n) (same-heads : SameTo (4 * n) heads heads') (same-words : SameTo (185 * n) words words') where
  pub tests-kept : (j : ℕ) → j < n → tests_in words' (185 * j) (get_or heads' (4 * j) 0) ≡ tests_in words (185 * j) (get_or heads (4 * j) 0)
  tests-kept j h =
      ap (tests_in words' (185 * j)) (same-heads (4 * j) (omega arith))
      ∙ in-same test_in test-like words' words (185 * j) (get_or heads (4 * j) 0) (λ i l. same-words i (omega (arith, laid.tests_few j h)))

  actions-kept : (j : ℕ) → j < n → actions_in words' (185 * j + 97) (get_or heads' (4 * j + 1) 0) ≡ actions_in words (185 * j + 97) (get_or heads (4 * j + 1) 0)
  actions-kept j h =
      ap (actions_in words' (185 * j + 97)) (same-heads (4 * j + 1) (omega arith))
      ∙ in-same action_in action-like words' words (185 * j + 97) (get_or heads (4 * j + 1) 0) (λ i l. same-words i (omega (arith, laid.actions_few j h)))

  queries-kept : (j : ℕ) → j < n → queries_at words' (185 * j) ≡ queries_at words (185 * j)
  queries-kept j h =
      rw (same-words (185 * j + 88) (omega arith))
      (rows_same (λ k. query_by (get_or words' (185 * j + 89 + k) 0)) (λ k. query_by (get_or words (185 * j + 89 + k) 0)) 0 (get_or words (185 * j + 88) 0)
      (λ k a b. ap query_by (same-words (185 * j + 89 + k) (omega (arith, laid.queries_few j h)))))

  pub rule-kept : (j : ℕ) → j < n → rule_in heads' words' j ≡ rule_in heads words j
  rule-kept j h =
      ap₂ (λ (u : ℕ) (qs : List Query).
      record { utility = utility_of u; tests = tests_in words' (185 * j) (get_or heads' (4 * j) 0); queries = qs; actions = actions_in words' (185 * j + 97) (get_or heads' (4 * j + 1) 0) })
      (same-heads (4 * j + 2) (omega arith)) (queries-kept j h)
      ∙ ap₂ (λ (ts : List Test) (as' : List Action). record { utility = utility_of (get_or heads (4 * j + 2) 0); tests = ts; queries = queries_at words (185 * j); actions = as' })
      (tests-kept j h) (actions-kept j h)

  pub rules-kept : rules_in heads' words' n ≡ rules_in heads words n
  rules-kept = rows_same (rule_in heads' words') (rule_in heads words) 0 n (λ j a b. rule-kept j (omega arith))

  pub laid_kept : 4 * n ≤ length heads' → 185 * n ≤ length words' → Laid heads' words' n
  laid_kept heads-fit words-fit =
      record {
        at_most = laid.at_most;
        heads_room = heads-fit;
        words_room = words-fit;
        tests_few = λ j h. omega (arith, same-heads (4 * j) (omega arith), laid.tests_few j h);
        queries_few = λ j h. omega (arith, same-words (185 * j + 88) (omega arith), laid.queries_few j h);
        actions_few = λ j h. omega (arith, same-heads (4 * j + 1) (omega arith), laid.actions_few j h);
        masks = λ j h b. ap (λ (mask : ℕ). bit mask b) (same-heads (4 * j + 3) (omega arith)) ∙ laid.masks j h b ∙ ap (λ (r : Rule). looks_at r b) (sym (rule-kept j h));
      }

-- ---- where the sections of a plan begin: each where the one before it ends

pub record Follows (p : Plan) : Type 0 where
  pub chains_at : p.chains ≡ 152 + 11 * p.places
  pub heads_at : p.heads ≡ p.chains + 64 + p.places
  pub rows_at : p.rows ≡ p.heads + 4 * p.rules
  pub order_at : p.order ≡ p.rows + 185 * p.rules

pub follows : {p : Plan} {tape : List ℕ} → Planned p tape → Follows p
follows planned =
    let e = planned.starts in
    let chains = ap (λ (p : Plan). p.chains) e in
    let heads = ap (λ (p : Plan). p.heads) e in
    let rows = ap (λ (p : Plan). p.rows) e in
    let order = ap (λ (p : Plan). p.order) e in
    record { chains_at = chains; heads_at = omega arith; rows_at = omega arith; order_at = omega arith }

-- ---- the model stays while words outside its sections are written

abbrev model_by : Plan → List ℕ → List Chunk → List Fact → List Rule → Model
model_by p types opening facts rules = record { buffers = p.buffers; types = types; failure = p.failure; opening = opening; facts = facts; rules = rules }

-- types, opening and facts are as they were, and so are the heads and the rows of the rules
pub record Stays (p : Plan) (tape tape' : List ℕ) : Type 0 where
  pub begins : take (152 + 11 * p.facts) tape' ≡ take (152 + 11 * p.facts) tape
  pub heads : SameTo (4 * p.rules) (heads_on p tape) (heads_on p tape')
  pub rows : SameTo (185 * p.rules) (rows_on p tape) (rows_on p tape')
  pub as_long : length tape' ≡ length tape

module _ (p : Plan) (tape tape' : List ℕ) (planned : Planned p tape) (as_long : length tape' ≡ length tape) where
  -- while words from a place after the rows on are written
  pub stays-below : (o : ℕ) → p.order ≤ o → take o tape' ≡ take o tape → Stays p tape tape'
  stays-below o after below =
      let f = follows planned in
      let fit = planned.facts_placed in
      let kept-to : (m : ℕ) → m ≤ p.order → take m tape' ≡ take m tape = λ m h. begin-alike m o tape tape' (omega arith) below in
      record {
        begins = kept-to (152 + 11 * p.facts) (omega arith);
        heads = same-below p.heads (4 * p.rules) tape tape' (kept-to (p.heads + 4 * p.rules) (omega arith));
        rows = same-below p.rows (185 * p.rules) tape tape' (kept-to (p.rows + 185 * p.rules) (omega arith));
        as_long = as_long;
      }

  -- while words after the facts and before the heads are written
  pub stays-apart : take (152 + 11 * p.facts) tape' ≡ take (152 + 11 * p.facts) tape → drop p.heads tape' ≡ drop p.heads tape → Stays p tape tape'
  stays-apart begins apart =
      let f = follows planned in
      let at : (q : ℕ) → p.heads ≤ q → drop q tape' ≡ drop q tape = λ q h. drop-alike p.heads q tape tape' h apart in
      record {
        begins = begins;
        heads = λ j h. ap (λ (w : List ℕ). get_or w j 0) (at p.heads (omega arith));
        rows = λ j h. ap (λ (w : List ℕ). get_or w j 0) (at p.rows (omega arith));
        as_long = as_long;
      }

module _ (p : Plan) (tape tape' : List ℕ) (planned : Planned p tape) (stays : Stays p tape tape') where
  pub same-facts : SameTo (11 * p.facts) (drop 152 tape) (drop 152 tape')
  same-facts = same-below 152 (11 * p.facts) tape tape' stays.begins

  opening-below : take 152 tape' ≡ take 152 tape
  opening-below = begin-alike 152 (152 + 11 * p.facts) tape tape' (omega arith) stays.begins

  types-below : types_on p tape' ≡ types_on p tape
  types-below = types-kept p tape tape' opening-below (omega (arith, planned.most_declared))

  pub model-kept : model_on p tape' ≡ model_on p tape
  unfolding model_on
  model-kept =
      let facts = facts-kept p tape tape' stays.begins in
      let rules = rules-kept (heads_on p tape) (heads_on p tape') (rows_on p tape) (rows_on p tape') p.rules planned.laid stays.heads stays.rows in
      ap₂ (λ (ts : List ℕ) (cs : List Chunk). model_by p ts cs (facts_on p tape') (rules_on p tape')) types-below (opening-kept p tape tape' opening-below)
      ∙ ap₂ (λ (fs : List Fact) (rs : List Rule). model_by p (types_on p tape) (opening_on p tape) fs rs) facts rules

  pub planned-kept : Planned p tape'
  planned-kept =
      let s = sections planned in
      let long = stays.as_long in
      let heads-fit : 4 * p.rules ≤ length (heads_on p tape') = omega (arith, length-drop p.heads tape') in
      let rows_fit : 185 * p.rules ≤ length (rows_on p tape') = omega (arith, length-drop p.rows tape') in
      record {
        starts = planned.starts;
        room = omega (arith, planned.room);
        some_buffers = planned.some_buffers;
        most_buffers = planned.most_buffers;
        most_declared = planned.most_declared;
        facts_placed = planned.facts_placed;
        most_places = planned.most_places;
        small = subst (λ (ts : List ℕ). Small ts) (sym types-below) planned.small;
        laid = laid_kept (heads_on p tape) (heads_on p tape') (rows_on p tape) (rows_on p tape') p.rules planned.laid stays.heads stays.rows heads-fit rows_fit;
        opens = state-kept p tape tape' opening-below ∙ planned.opens ∙ ap open_state (sym model-kept);
      }
