-- A rule whose tests hold, without a variable in them: its queries tell whether it matches.
use Rattle.std.specs.Prelude.{if◌then◌else◌}
use Prim.Native.Nat.{ℕ}
use mathlib.Core.Path.{◌≡◌, refl, sym, ap, ◌∙◌}
use mathlib.Core.Bool.{Bool, true, false}
use mathlib.Core.List.{List, ◌∷◌}
use lib.Dec.{eqb}
use lib.ListN.{get_or, replicate}
use Rattle.meaning.specs.Match.{queries_hold}
use Rattle.layout.specs.Rows.{queries_at}
use Rattle.layout.specs.StateWords.{state_in}
use Rattle.match_rule.specs.Run.{Run, stop, on, then_on, no_vars, entry_words}
use Rattle.fresh_match.specs.Hits.{plain_entry, PlainMatch, HitMet}

pub plain-words : (u : Run) (held : Bool) → on no_vars ≡ u → entry_words (then_on u (λ v. if held then on v else stop)) ≡ plain_entry held
plain-words u held e = rw (← e) (elim held as (λ t. entry_words (if t then on no_vars else stop) ≡ plain_entry t) [ true ↦ refl | false ↦ refl ])

-- the first word of the entry
plain-first : (held : Bool) → held ≡ eqb (get_or (plain_entry held) 0 0) 1
plain-first true = refl
plain-first false = refl

pub plain-met : (hit : Bool) (nine words : List ℕ) (o n : ℕ) (state : List ℕ) → nine ≡ 1 ∷ replicate 8 0 → PlainMatch words o n state
    → ((clock : ℕ) → hit ≡ queries_hold (queries_at words o) (state_in state clock)) → HitMet hit nine words o n state
plain-met hit nine words o n state is plain held =
    record {
      counted = λ r clock stands.
          held clock ∙ plain-first (queries_hold (queries_at words o) (state_in state clock)) ∙ ap (λ (l : List ℕ). eqb (get_or l 0 0) 1) (sym (plain r clock stands));
      entered = λ e r clock stands. is ∙ sym (plain r clock stands ∙ ap plain_entry (sym (held clock) ∙ e));
    }
