-- One place that is filled fills all of its variable's; and what a fired rule writes through a variable is not nil.
use Rattle.std.specs.Prelude.{◌≡◌, refl, ◌⊎◌, true, eqb, ltb, ℤ, length}
use Rattle.std.proofs.Common.{sym, ap, subst, ◌∙◌, inl, inr, eqb-true, ltb-true}
use mathlib.Core.List.{List, Memᴰ}
use Rattle.std.proofs.Math.Option.{Option, none, some}
use Prim.Native.Nat.{ℕ, ◌<◌}
use Rattle.std.proofs.Math.ListN.{get_or}
use Rattle.meaning.specs.declared.Buffer.{Buffer}
use Rattle.meaning.specs.declared.State.{State}
use Rattle.meaning.specs.Base.{every}
use Rattle.meaning.specs.Model.{Model, Rule, Deed, deed_modify, deed_request, Named, variable, Fact}
use Rattle.meaning.specs.State.{buffer_of, slot_count}
use Rattle.meaning.specs.Image.{stands_in, is_tested, tested_type}
use Rattle.meaning.specs.Match.{Place, value_in, term_in, takes, agrees, agreed, matches, entry_of}
use Rattle.meaning.specs.Retrieval.{value_of, retrieve, retrieved}
use Rattle.meaning.specs.Fire.{put, done, deed_on}
use Rattle.meaning.specs.Step.{event_fired, step_made, step}
use Rattle.laws.specs.BaseLaws.{and_left, and_right, every-member}
use Rattle.promises.specs.Words.{At, FilledAt, nil_with}
use Rattle.promises.specs.Published.{stands_for, Matches, Entered, values_in}
use Rattle.promises.proofs.Proofs.Decoded.{Decoded, and-true, rises, good_term, good_named, good_names, good_deed}
use Rattle.promises.proofs.Proofs.Matching.{member-all, takes-filled, bound-filled, matches-bind}
use Rattle.promises.proofs.Proofs.Selection.{at_same}
use Rattle.promises.proofs.Proofs.Entries.{entered}
use Rattle.promises.proofs.Proofs.Firing.{fired-rule, fired-done}
use Rattle.promises.proofs.Proofs.Retrieving.{found_here}
use Rattle.promises.proofs.Proofs.Effects.{put-named}
use Rattle.promises.proofs.Proofs.Transitions.{Doer, deed-some, good-deed}

-- ---- the places of a variable

pub one-fills : (ps : List Place) → every (λ p. eqb p.value (term_in ps p.term)) ps ≡ true
    → ((p : Place) → Memᴰ p ps → (w : ℕ) → p.term ≡ variable w → FilledAt ps w) → agreed ps ≡ true
one-fills ps same some-filled =
    member-all (agrees ps) ps (λ p k. and-true (takes p.term p.value) (eqb p.value (term_in ps p.term)) (takes-filled p.term p.value (filled p k)) (equal p k))
  where
    equal : (p : Place) → Memᴰ p ps → eqb p.value (term_in ps p.term) ≡ true
    equal p k = every-member (λ p. eqb p.value (term_in ps p.term)) ps same k

    -- a variable's places all have the value of its first
    first : (p : Place) → Memᴰ p ps → (w : ℕ) → p.term ≡ variable w → p.value ≡ value_in ps w
    first p k w is = eqb-true p.value (term_in ps p.term) (equal p k) ∙ ap (term_in ps) is

    filled : (p : Place) → Memᴰ p ps → (w : ℕ) → p.term ≡ variable w → p.value ≡ 0 → ⊥
    filled p k w is nil = let q = some-filled p k w is in q.filled (first q.place q.place_in w q.is ∙ sym (first p k w is) ∙ nil)

-- ---- the entry of a rule that matches

pub entry-filled : (r : Rule) (s : State) (entry : List ℕ) → Entered r s entry → Matches r s → (w : ℕ) → w < 8 → stands_in r.tests w ≡ true → values_in entry w ≡ 0 → ⊥
entry-filled r s entry is match w low stands nil = bound-filled r s match.binding match.binds w stands (sym (is.values match.binding match.binds w low stands) ∙ nil)

-- the slots that these name by a variable are filled
abbrev pub Fills : List Named → Buffer → Type 0
Fills ns b = (n : Named) → Memᴰ n ns → (w : ℕ) → n.term ≡ variable w → get_or b.slots n.slot 0 ≡ 0 → ⊥

module _ (r : Rule) (s : State) (match : Matches r s) where
  abbrev entry : List ℕ
  entry = entry_of r s

  -- a variable that an action names stands in a test, and so for something
  value-filled : (k : ℕ) (ns : List Named) → good_names r.tests k ns ≡ true → (n : Named) → Memᴰ n ns → (w : ℕ) → n.term ≡ variable w → values_in entry w ≡ 0 → ⊥
  value-filled k ns g n h w is =
      let all : every (good_named r.tests k) ns ≡ true = and_left (every (good_named r.tests k) ns) (rises (λ n. n.slot) 0 ns) g in
      let good : good_term r.tests n.term ≡ true = and_right (ltb n.slot k) (good_term r.tests n.term) (every-member (good_named r.tests k) ns all h) in
      let own : good_term r.tests (variable w) ≡ true = subst (λ t. good_term r.tests t ≡ true) is good in
      entry-filled r s entry (entered r s) match w (ltb-true w 8 (and_left (ltb w 8) (stands_in r.tests w) own)) (and_right (ltb w 8) (stands_in r.tests w) own)

  modify-filled : (k : ℕ) (ns : List Named) (slots : List ℕ) → good_names r.tests k ns ≡ true → (n : Named) → Memᴰ n ns → n.slot < length slots
      → (w : ℕ) → n.term ≡ variable w → get_or (put ns entry slots) n.slot 0 ≡ 0 → ⊥
  modify-filled k ns slots g n h l w is nil =
      let up : rises (λ n. n.slot) 0 ns ≡ true = and_right (every (good_named r.tests k) ns) (rises (λ n. n.slot) 0 ns) g in
      value-filled k ns g n h w is (sym (put-named 0 ns entry slots up n h l ∙ ap (value_of entry) is) ∙ nil)

  request-filled : (k failure isa : ℕ) (ns : List Named) (memory : List Fact) → good_names r.tests k ns ≡ true → (o : Option Fact) → retrieve memory isa ns entry ≡ o
      → (retrieved failure o ≡ nil_with failure true) ⊎ Fills ns (retrieved failure o)
  request-filled k failure isa ns memory g none e = inl refl
  request-filled k failure isa ns memory g (some f) e =
      let fits = (found_here memory isa ns entry f e).1.fitting in
      inr (λ n h w is nil. value-filled k ns g n h w is (sym (fits.valued n h ∙ ap (stands_for (values_in entry)) is) ∙ nil))

-- ---- the actions of a rule that fires, whatever the table, the memory and the utilities were

module _ (m : Model) (known : Decoded m) (memory : List Fact) (us : List ℤ) (s : State) (table : List ℕ) (k : ℕ) (s' : State) (mark : ℕ)
    (made : step m memory us s table ≡ step_made (event_fired k) s' mark) (r : Rule) (numbered : At r k m.rules) (b : ℕ) (there : b < length s.buffers) where
  match : Matches r s
  match =
      let fired = fired-rule m memory us s table k s' mark made in
      matches-bind r s (subst (λ x. matches x s ≡ true) (at_same fired.0 numbered) fired.1)

  good : (d : Deed) → deed_on r.actions b ≡ some d → good_deed m.types r.tests b d ≡ true
  good d is =
      let by : Doer r.actions b d = deed-some r.actions b d is in
      let own = good-deed m known.rules_good s k r numbered match.binding match.binds by.action by.member in
      subst (λ i. good_deed m.types r.tests i d ≡ true) by.buffer_is' (subst (λ x. good_deed m.types r.tests by.action.buffer x ≡ true) by.deed_is own)

  after-it : (d : Deed) → deed_on r.actions b ≡ some d → buffer_of s' b ≡ done m.failure memory (entry_of r s) (buffer_of s b) d
  after-it d is = fired-done m memory us s table k s' mark made r numbered b there d is

  pub modified-filled : (ns : List Named) → deed_on r.actions b ≡ some (deed_modify ns) → (n : Named) → Memᴰ n ns → n.slot < length (buffer_of s b).slots
      → (w : ℕ) → n.term ≡ variable w → get_or (buffer_of s' b).slots n.slot 0 ≡ 0 → ⊥
  unfolding done
  modified-filled ns is n h l w var nil =
      let size : ℕ = slot_count m.types (tested_type r.tests b) in
      let names = and_right (is_tested r.tests b) (good_names r.tests size ns) (good (deed_modify ns) is) in
      modify-filled r s match size ns (buffer_of s b).slots names n h l w var (sym (ap (λ (x : Buffer). get_or x.slots n.slot 0) (after-it (deed_modify ns) is)) ∙ nil)

  pub requested-filled : (isa : ℕ) (ns : List Named) → deed_on r.actions b ≡ some (deed_request isa ns) → (buffer_of s' b ≡ nil_with m.failure true) ⊎ Fills ns (buffer_of s' b)
  unfolding done
  requested-filled isa ns is =
      rw (after-it (deed_request isa ns) is)
      (request-filled r s match (slot_count m.types isa) m.failure isa ns memory (good (deed_request isa ns) is) (retrieve memory isa ns (entry_of r s)) refl)
