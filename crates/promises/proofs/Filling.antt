-- Change request 2026-01: a variable says "something is here".
use Rattle.std.specs.Prelude.{◌≡◌, ◌⊎◌, true, ℕ, ◌<◌, eqb, ℤ, length, get_or}
use mathlib.Core.List.{List, Memᴰ}
use Rattle.std.proofs.Math.Option.{some}
use Rattle.meaning.specs.declared.State.{State}
use Rattle.meaning.specs.Base.{every}
use Rattle.meaning.specs.Model.{Model, Rule, deed_modify, deed_request, Named, variable, Fact}
use Rattle.meaning.specs.State.{buffer_of}
use Rattle.meaning.specs.Read.{read_got}
use Rattle.meaning.specs.Image.{stands_in, decode}
use Rattle.meaning.specs.Match.{Place, term_in, agreed, fresh_table}
use Rattle.meaning.specs.Fire.{deed_on}
use Rattle.meaning.specs.Step.{event_fired, step_made, step}
use Rattle.promises.specs.Words.{At, entry_at, FilledAt, nil_with}
use Rattle.promises.specs.Published.{Matches, values_in}
use Rattle.promises.proofs.Proofs.Decoded.{decoded}
use Rattle.promises.proofs.Proofs.Entries.{fresh-entered}
use Rattle.promises.proofs.Proofs.Filled.{one-fills, entry-filled, modified-filled, requested-filled}

-- In the entry of a rule that matches, no variable that the rule uses is 0.
pub no-variable-nil : (rules : List Rule) (s : State) (k : ℕ) (r : Rule) → At r k rules → Matches r s
    → (w : ℕ) → w < 8 → stands_in r.tests w ≡ true → values_in (entry_at k (fresh_table rules s)) w ≡ 0 → ⊥
no-variable-nil rules s k r h match w low stands nil = entry-filled r s (entry_at k (fresh_table rules s)) (fresh-entered rules s k r h) match w low stands nil

-- It does not matter at which of a variable's places nil is looked at: if each slot's value equals its term, and of each variable some one place is filled,
-- all places agree, so none of them is empty. (The code looks at the first.)
pub one-place-fills : (ps : List Place) → every (λ p. eqb p.value (term_in ps p.term)) ps ≡ true
    → ((p : Place) → Memᴰ p ps → (w : ℕ) → p.term ≡ variable w → FilledAt ps w) → agreed ps ≡ true
one-place-fills ps same some-filled = one-fills ps same some-filled

-- ---- so a rule that fires writes nil through no variable, whatever the table, the facts in memory and the utilities say

module _ (image : List ℕ) (m : Model) (at : ℕ) (accepted : decode image ≡ read_got m at)
    (memory : List Fact) (us : List ℤ) (s : State) (table : List ℕ) (k : ℕ) (s' : State) (mark : ℕ) (made : step m memory us s table ≡ step_made (event_fired k) s' mark)
    (r : Rule) (numbered : At r k m.rules) (b : ℕ) (there : b < length s.buffers) where
  -- A slot that its modify names by a variable is filled afterwards.
  pub modify-fills : (ns : List Named) → deed_on r.actions b ≡ some (deed_modify ns) → (n : Named) → Memᴰ n ns → n.slot < length (buffer_of s b).slots
      → (w : ℕ) → n.term ≡ variable w → get_or (buffer_of s' b).slots n.slot 0 ≡ 0 → ⊥
  modify-fills = modified-filled m (decoded image m at accepted) memory us s table k s' mark made r numbered b there

  -- What its request brings is the nil of a failure, with its flag set, or has every slot filled that the request names by a variable.
  pub request-fills : (isa : ℕ) (ns : List Named) → deed_on r.actions b ≡ some (deed_request isa ns) → (buffer_of s' b ≡ nil_with m.failure true)
      ⊎ ((n : Named) → Memᴰ n ns → (w : ℕ) → n.term ≡ variable w → get_or (buffer_of s' b).slots n.slot 0 ≡ 0 → ⊥)
  request-fills = requested-filled m (decoded image m at accepted) memory us s table k s' mark made r numbered b there
