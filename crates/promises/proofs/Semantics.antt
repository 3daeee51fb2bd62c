-- Demand 2: with the fresh table, which is the only one that a chain of calls ever holds (Keeping), the steps are the transitions of the published semantics.
use Rattle.std.specs.Prelude.{◌≡◌, ◌↔◌, true, List, ℕ, ◌≤◌, ◌<◌, length}
use Rattle.std.proofs.Math.Path.{refl, subst}
use Rattle.std.proofs.Common.{sym, ◌∙◌}
use Rattle.std.proofs.Math.Option.{Option, none, some}
use Rattle.meaning.specs.declared.State.{State}
use Rattle.meaning.specs.Numbers.{not_fresh, clock_full, halted}
use Rattle.meaning.specs.Model.{Model, Rule, Named, Chunk, Fact}
use Rattle.meaning.specs.State.{buffer_of, well_formed}
use Rattle.meaning.specs.Read.{read_got}
use Rattle.meaning.specs.Image.{decode}
use Rattle.meaning.specs.Match.{matches, fresh_table}
use Rattle.meaning.specs.Choice.{Candidate, choose, utilities}
use Rattle.meaning.specs.Retrieval.{retrieve}
use Rattle.meaning.specs.Step.{Event, step_stopped, step_made, largest, step_of}
use Rattle.meaning.specs.Learning.{knowing}
use Rattle.meaning.specs.Store.{lent_by, store_fits, store_of}
use Rattle.meaning.specs.Run.{Timed, Going, Run}
use Rattle.meaning.specs.Calls.{trace_lent, trace_of, Ran, run_lent, run_of}
use Rattle.meaning.specs.Fresh.{Moving, moving}
use Rattle.promises.specs.Words.{At, entry_at, Reached, alone}
use Rattle.promises.specs.Published.{Matches, Entered, CountsIn, Picked, Selected, NoneSelected, values_in, Fits, Retrieved, Transition, Transitions, Final, Passes, RanOn}
use Rattle.promises.proofs.Proofs.Decoded.{RulesGood, good-known, decoded}
use Rattle.promises.proofs.Proofs.Matching as matching
use Rattle.promises.proofs.Proofs.Selection as selection
use Rattle.promises.proofs.Proofs.Entries as entries
use Rattle.promises.proofs.Proofs.Retrieving as retrieving
use Rattle.promises.proofs.Proofs.Transitions as transitions
use Rattle.promises.proofs.Proofs.Outcomes as outcomes
use Rattle.promises.proofs.Proofs.Lending.{none_kept}

-- ---- the match

-- A rule matches exactly if the variables can be bound so that all its tests hold, and all its queries hold.
pub matches-exactly : (r : Rule) (s : State) → (matches r s ≡ true) ↔ Matches r s
matches-exactly r s = (matching.matches-bind r s, matching.is-match r s)

-- The words of rule k in the fresh table, all nine of them: 1 and the values of every binding, 0 for a variable that stands in no test; nine zeros if there is no match.
pub entry-exactly : (rules : List Rule) (s : State) (k : ℕ) (r : Rule) → At r k rules → Entered r s (entry_at k (fresh_table rules s))
entry-exactly rules s k r h = entries.fresh-entered rules s k r h

-- ---- the choice

-- Whatever the table holds, right or wrong: the entry that is chosen has 1 for its first word, no entry that has has a higher utility, and none of the same
-- utility a lower number; nothing is chosen exactly if no entry has.
pub chosen-picked : (rules : List Rule) (table : List ℕ) (c : Candidate) → choose rules (utilities rules) table ≡ some c → Picked rules table c
chosen-picked rules table c e = selection.chosen-picked rules table c e

pub none-picked : (rules : List Rule) (table : List ℕ) → (choose rules (utilities rules) table ≡ none) ↔ ((k : ℕ) (r : Rule) → At r k rules → CountsIn table k → ⊥)
none-picked rules table = (selection.none-counts rules table, selection.none-picked rules table)

-- With the fresh table the rule that is chosen matches, none that matches has a higher utility, and none of the same utility a lower number.
pub chosen-selected : (m : Model) (s : State) (c : Candidate) → choose m.rules (utilities m.rules) (fresh_table m.rules s) ≡ some c → Selected m s c.number c.rule
chosen-selected m s c e = selection.chosen-selected m s c e

-- Nothing is chosen exactly if no rule matches.
pub none-selected : (m : Model) (s : State) → (choose m.rules (utilities m.rules) (fresh_table m.rules s) ≡ none) ↔ NoneSelected m s
none-selected m s = (selection.chosen_none m s, selection.none-chosen m s)

-- There is no second rule that could be selected.
pub selected-once : (m : Model) (s : State) (j k : ℕ) (q r : Rule) → Selected m s j q → Selected m s k r → (j ≡ k) × (q ≡ r)
selected-once m s j k q r a b = selection.selected-once m s j k q r a b

-- ---- the retrieval

-- A request finds the fitting fact of highest activation, the lowest number among equals.
pub request-finds : (memory : List Fact) (isa : ℕ) (ns : List Named) (entry : List ℕ) (f : Fact) → retrieve memory isa ns entry ≡ some f
    → (k : ℕ) × Retrieved memory (values_in entry) isa ns k f
request-finds memory isa ns entry f e = retrieving.found_here memory isa ns entry f e

-- It finds nothing, and so brings nil, exactly if no fact fits.
pub request-nil : (memory : List Fact) (isa : ℕ) (ns : List Named) (entry : List ℕ)
    → (retrieve memory isa ns entry ≡ none) ↔ ((k : ℕ) (f : Fact) → At f k memory → Fits (values_in entry) isa ns f → ⊥)
request-nil memory isa ns entry = (retrieving.nothing-here memory isa ns entry, retrieving.here-nothing memory isa ns entry)

-- ---- the step, over an accepted image, with the memory that it reads: the image's facts, and after them the store's if one is lent (`knowing`)

module _ (image : List ℕ) (m : Model) (at : ℕ) (accepted : decode image ≡ read_got m at) (store : Option (List Chunk)) (s : State) where
  abbrev known : Model
  known = knowing m store

  good : RulesGood known
  good = good-known m (decoded image m at accepted).rules_good store

  own : step_of known s (fresh_table m.rules s) ≡ step_of known s (fresh_table known.rules s)
  own = outcomes.known_step_lem m (moving s store)

  -- A made step is a transition, within the clock.
  pub step-transition : (e : Event) (s' : State) (mark : ℕ) → step_of known s (fresh_table m.rules s) ≡ step_made e s' mark → Transition known s e s' × (s'.clock ≤ largest)
  step-transition e s' mark h = outcomes.made-transition known good s e s' mark (sym own ∙ h)

  -- Every transition within the clock is the step that is made.
  pub transition-step : (e : Event) (s' : State) → Transition known s e s' → s'.clock ≤ largest → (mark : ℕ) × (step_of known s (fresh_table m.rules s) ≡ step_made e s' mark)
  transition-step e s' t c = let k = outcomes.transition-made known good s e s' t c in (k.0, own ∙ k.1)

  -- There is at most one transition.
  pub transition-once : (e f : Event) (s₁ s₂ : State) → Transition known s e s₁ → Transition known s f s₂ → (e ≡ f) × (s₁ ≡ s₂)
  transition-once e f s₁ s₂ a b = transitions.transition-once known good s a b

  -- The step halts exactly in a final state, where no transition is possible,
  pub halts-finally : (step_of known s (fresh_table m.rules s) ≡ step_stopped halted) ↔ Final known s
  halts-finally = (λ h. outcomes.halt-final known good s (sym own ∙ h), λ h. own ∙ outcomes.final-halt known good s h)

  -- that is, where no rule matches and nothing is pending.
  pub final-quiet : Final known s ↔ (NoneSelected known s × ((b : ℕ) → b < length s.buffers → (buffer_of s b).delay ≡ 0))
  final-quiet = (outcomes.final-quiet known good s, λ h. transitions.stays-final known good s h.0 h.1)

  -- Number 8 comes exactly where the clock would pass.
  pub full-exactly : (step_of known s (fresh_table m.rules s) ≡ step_stopped clock_full) ↔ Passes known s
  full-exactly = (λ h. outcomes.full-passes known good s (sym own ∙ h), λ h. own ∙ outcomes.passes-full known good s h)

  -- Number 7 never comes.
  pub never-stale : step_of known s (fresh_table m.rules s) ≡ step_stopped not_fresh → ⊥
  never-stale h = outcomes.not-seven known good s (sym own ∙ h)

  -- And so there is one path of so many transitions.
  pub path-once : (es fs : List Timed) (g₁ g₂ : Moving) → Transitions m es (moving s store) g₁ → Transitions m fs (moving s store) g₂ → length es ≡ length fs
      → (es ≡ fs) × (g₁ ≡ g₂)
  path-once es fs g₁ g₂ a b l = outcomes.transitions-once m (decoded image m at accepted).rules_good a b l

  -- ---- the chain of calls

  -- With the table that a caller holds after any kept runs and refreshes, a made step is a transition.
  pub reached-step : (table : List ℕ) → Reached image s table → (e : Event) (s' : State) (mark : ℕ) → step_of known s table ≡ step_made e s' mark → Transition known s e s'
  reached-step table r e s' mark h = outcomes.chain-step image m at accepted r store e s' mark h

-- ---- the run, where a word says what is lent of the words beside it

module _ (image : List ℕ) (m : Model) (at : ℕ) (accepted : decode image ≡ read_got m at) (s : State) (asked lent : ℕ) (words : List ℕ)
    (fits : store_fits m.types (lent_by lent words) ≡ true) where
  abbrev lent_trace : List ℕ → Run Going
  lent_trace table = trace_lent image s table asked (lent_by lent words)

  abbrev lent_answer : List ℕ → Ran
  lent_answer table = (run_lent image s table asked lent words).answer

  -- From all that was opened, run, changed and refreshed before, with any store that fits, or none: the run's steps are transitions from what is handed in to what is
  -- given back, its events are what these did, in order, and as many as it says; it answers 0 if they are as many as were asked, 8 if the next would pass the last
  -- clock, 9 if the state is final, 14 if the next would learn too much, and no other number; and it leaves the fresh table.
  pub reached-lent : (table : List ℕ) → Reached image s table
      → RanOn m (moving s (store_of (lent_by lent words))) asked (lent_trace table).events (lent_answer table) (lent_trace table).left.store
  unfolding run_lent
  reached-lent table r = outcomes.chain_runs image m at accepted (lent_by lent words) fits r asked

  -- The same from any well-formed state, wherever it comes from, with its fresh table.
  pub fresh-lent : well_formed m s ≡ true
      → let table : List ℕ = fresh_table m.rules s in RanOn m (moving s (store_of (lent_by lent words))) asked (lent_trace table).events (lent_answer table) (lent_trace table).left.store
  unfolding run_lent
  fresh-lent well = outcomes.fresh-runs image m at accepted (lent_by lent words) fits s well asked

-- ---- the run with nothing lent

module _ (image : List ℕ) (m : Model) (at : ℕ) (accepted : decode image ≡ read_got m at) (s : State) where
  -- From all that was opened, run, changed and refreshed before: the run's steps are transitions from the state handed in to the state given back, its events
  -- are what these did, in order, and as many as it says; it answers 0 if they are as many as were asked, 8 if the next would pass the last clock, 9 if the
  -- state is final, and no other number; and it leaves the fresh table.
  pub reached-run : (table : List ℕ) → Reached image s table → (asked : ℕ) → RanOn m (alone s) asked (trace_of image s table asked).events (run_of image s table asked) none
  unfolding run_of store_fits
  reached-run table r asked =
      subst (RanOn m (alone s) asked (trace_of image s table asked).events (run_of image s table asked)) (none_kept image s asked table)
      (outcomes.chain_runs image m at accepted none refl r asked)

  -- The same from any well-formed state, wherever it comes from, with its fresh table.
  pub fresh-run : well_formed m s ≡ true → (asked : ℕ)
      → RanOn m (alone s) asked (trace_of image s (fresh_table m.rules s) asked).events (run_of image s (fresh_table m.rules s) asked) none
  unfolding run_of store_fits
  fresh-run well asked =
      subst (RanOn m (alone s) asked (trace_of image s (fresh_table m.rules s) asked).events (run_of image s (fresh_table m.rules s) asked)) (none_kept image s asked (fresh_table m.rules s))
      (outcomes.fresh-runs image m at accepted none refl s well asked)
