-- Events are laid into the lent words one after the other.
use Rattle.std.specs.Prelude.{◌≡◌, refl, List, [], ◌∷◌, ◌++◌, ℕ, ◌+◌, ◌*◌, ◌≤◌, ◌<◌, length, drop}
use Rattle.std.proofs.Common.{sym, ap, ap₂, ◌∙◌, append_assoc, arith, le-leb, length-append, take_at, drop_at, drop-drop}
use Rattle.std.proofs.lemmas.Bool.{lt-leb}
use Rattle.std.proofs.lemmas.List.Edits.{sets-eq}
use Rattle.meaning.specs.Step.{Event, event_fired, event_waited}
use Rattle.meaning.specs.Run.{Timed}
use Rattle.step_note.specs.Events.{event_words, noted, inscribed}
use Rattle.promises_c.specs.Handing.{lay_events}

three : (clock : ℕ) (e : Event) → length (event_words clock e) ≡ 3
three clock (event_fired k) = refl
three clock (event_waited ms) = refl

-- where there is no room for one event there is none for those after it
full : (lent : List ℕ) (k : ℕ) (es : List Timed) → length lent < 3 * k + 3 → inscribed lent k es ≡ lent
unfolding inscribed noted
full lent k [] h = refl
full lent k (e ∷ es) h = rw (lt-leb (3 * k + 3) (length lent) h) (full lent (k + 1) es (omega arith))

-- three words are overwritten, and those before and after them stay
over : (pre : List ℕ) (a b c : ℕ) (rest : List ℕ) (k : ℕ) (ws : List ℕ) → length pre ≡ 3 * k → length ws ≡ 3 → noted (pre ++ (a ∷ b ∷ c ∷ rest)) k ws ≡ (pre ++ ws) ++ rest
unfolding noted
over pre a b c rest k ws l n =
    let all : List ℕ = pre ++ (a ∷ b ∷ c ∷ rest) in
    let room : 3 * k + 3 ≤ length all = omega (arith, length-append pre (a ∷ b ∷ c ∷ rest)) in
    let tail : drop (3 * k + length ws) all ≡ rest = ap (λ (i : ℕ). drop (3 * k + i) all) n ∙ sym (drop-drop 3 (3 * k) all) ∙ ap (drop 3) (drop_at pre (a ∷ b ∷ c ∷ rest) (3 * k) l) in
    rw (le-leb (3 * k + 3) (length all) room)
    (sets-eq ws all (3 * k) (omega arith) ∙ ap₂ (λ (x y : List ℕ). x ++ ws ++ y) (take_at pre (a ∷ b ∷ c ∷ rest) (3 * k) l) tail)

laid_from : (pre lent : List ℕ) (k : ℕ) (es : List Timed) → length pre ≡ 3 * k → inscribed (pre ++ lent) k es ≡ pre ++ lay_events lent es
unfolding inscribed
laid_from pre [] k [] l = refl
laid_from pre (a ∷ lent) k [] l = refl
laid_from pre [] k (e ∷ es) l = full (pre ++ []) k (e ∷ es) (omega (arith, length-append pre []))
laid_from pre (a ∷ []) k (e ∷ es) l = full (pre ++ (a ∷ [])) k (e ∷ es) (omega (arith, length-append pre (a ∷ [])))
laid_from pre (a ∷ b ∷ []) k (e ∷ es) l = full (pre ++ (a ∷ b ∷ [])) k (e ∷ es) (omega (arith, length-append pre (a ∷ b ∷ [])))
laid_from pre (a ∷ b ∷ c ∷ rest) k (e ∷ es) l =
    let ws : List ℕ = event_words e.clock e.event in
    ap (λ (x : List ℕ). inscribed x (k + 1) es) (over pre a b c rest k ws l (three e.clock e.event))
    ∙ laid_from (pre ++ ws) rest (k + 1) es (omega (arith, length-append pre ws, three e.clock e.event))
    ∙ append_assoc pre ws (lay_events rest es)

pub noted-in-order : (lent : List ℕ) (es : List Timed) → inscribed lent 0 es ≡ lay_events lent es
noted-in-order lent es = laid_from [] lent 0 es refl
