-- The lines of a run: each in its letters, and one more of those that words tell.
use Rattle.std.specs.Prelude.{if◌then◌else◌}
use Prim.Native.Nat.{ℕ, zero, suc, ◌+◌, ◌*◌}
use mathlib.Core.Path.{◌≡◌, refl, sym, ap, ◌∙◌}
use mathlib.Core.Bool.{true, false}
use mathlib.Core.List.{List, [], ◌∷◌, ◌++◌, append_assoc, append-nil}
use native.Mathlib.Omega.{arith}
use lib.Dec.{eqb}
use Rattle.meaning.specs.Step.{event_fired, event_waited}
use Rattle.meaning.specs.Print.{Line, stepped}
use Rattle.step_note.specs.Events.{event_by}
use Rattle.actr_lines.specs.Text.{decimal, fired, waited, happened, newline, letters, text as lines_text}
use Rattle.actr_lines.specs.Written.{Written, word, line_in, lines_in}
use Rattle.actr_lines.proofs.WrittenLaws.{written_none, written-join, written_as}

-- the word of a kind, and then the number
kind-letters : (kind value : ℕ) → word kind ++ decimal value ≡ happened (event_by kind value)
kind-letters kind value =
    elim (eqb kind 0) as (λ t. (if t then fired else waited) ++ decimal value ≡ happened (if t then event_fired value else event_waited value)) [
      | true ↦ refl
      | false ↦ refl
    ]

pub step-letters : (clock kind value : ℕ) → decimal clock ++ word kind ++ decimal value ++ newline ≡ letters (stepped clock (event_by kind value))
step-letters clock kind value =
    ap (λ (l : List ℕ). l ++ newline)
    (append_assoc (decimal clock) (word kind) (decimal value) ∙ ap (λ (l : List ℕ). decimal clock ++ l) (kind-letters kind value))

-- the text of some lines and then of others
text-append : (ls ms : List Line) → lines_text (ls ++ ms) ≡ lines_text ls ++ lines_text ms
unfolding lines_text
text-append [] ms = refl
text-append (l ∷ ls) ms = ap (λ (t : List ℕ). letters l ++ t) (text-append ls ms) ∙ sym (append_assoc (letters l) (lines_text ls) (lines_text ms))

-- some lines and then one
pub text-last : (ls : List Line) (l : Line) → lines_text ls ++ letters l ≡ lines_text (ls ++ (l ∷ []))
unfolding lines_text
text-last ls l = sym (text-append ls (l ∷ []) ∙ ap (λ (t : List ℕ). lines_text ls ++ t) (append-nil (letters l)))

pub text-one : (l : Line) → letters l ≡ lines_text (l ∷ [])
unfolding lines_text
text-one l = text-last [] l

-- n lines and one more
lines_more : (words : List ℕ) (k n : ℕ) → lines_in words k (suc n) ≡ lines_in words k n ++ (line_in words (k + n) ∷ [])
unfolding lines_in
lines_more words k zero = let e : k + 0 ≡ k = omega arith in rw e
lines_more words k (suc n) =
    let e : k + 1 + n ≡ k + suc n = omega arith in
    ap (λ (l : List Line). line_in words k ∷ l) (lines_more words (k + 1) n ∙ ap (λ (i : ℕ). lines_in words (k + 1) n ++ (line_in words i ∷ [])) e)

text-more : (words : List ℕ) (n : ℕ) → lines_text (lines_in words 0 n) ++ letters (line_in words n) ≡ lines_text (lines_in words 0 (n + 1))
text-more words n =
    let e : 0 + n ≡ n = omega arith in
    let f : n + 1 ≡ suc n = omega arith in
    text-last (lines_in words 0 n) (line_in words n)
    ∙ ap lines_text (sym (ap (lines_in words 0) f ∙ lines_more words 0 n ∙ ap (λ (i : ℕ). lines_in words 0 n ++ (line_in words i ∷ [])) e))

-- no line yet
pub steps-none : (text : List ℕ) (at : ℕ) (words : List ℕ) → Written text at text at (27 * 0) (lines_text (lines_in words 0 0))
unfolding lines_text lines_in
steps-none text at words = written_none text at

-- one more line is put
pub steps_on : {before after last : List ℕ} {at end final : ℕ} (words : List ℕ) (k : ℕ)
    → Written before at after end (27 * k) (lines_text (lines_in words 0 k)) → Written after end last final 27 (letters (line_in words k))
    → Written before at last final (27 * (k + 1)) (lines_text (lines_in words 0 (k + 1)))
steps_on words k p q = written_as (text-more words k) (omega arith) (written-join p q)
