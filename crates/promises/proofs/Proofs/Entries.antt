-- The nine words of an entry, under any binding of the rule's variables.
use Rattle.std.specs.Prelude.{◌≡◌, true, false, List, [], ◌∷◌, ◌++◌, map, ℕ, ◌+◌, ltb, get_or, replicate}
use Rattle.std.proofs.Math.Path.{refl}
use Rattle.std.proofs.Common.{◌∙◌, arith, lt-ltb}
use Rattle.std.proofs.lemmas.List.{get_or-replicate}
use Rattle.meaning.specs.declared.Buffer.{Buffer}
use Rattle.meaning.specs.declared.State.{State}
use Rattle.meaning.specs.Base.{any_of}
use Rattle.meaning.specs.Model.{Rule, Test, Named, variable}
use Rattle.meaning.specs.State.{buffer_of}
use Rattle.meaning.specs.Image.{is_variable, stands_in}
use Rattle.meaning.specs.Match.{Place, place, places, value_in, matches, entry_of, fresh_table}
use Rattle.laws.specs.BaseLaws.{or_left, or_right}
use Rattle.laws.specs.MatchLaws.{entry_length}
use Rattle.promises.specs.Words.{At, entry_at}
use Rattle.promises.specs.Published.{Entered}
use Rattle.promises.proofs.Proofs.Decoded.{and-true}
use Rattle.promises.proofs.Proofs.Matching.{is-match, matches-bind, entry_value, value-binds}
use Rattle.promises.proofs.Proofs.Selection.{fresh-entry-at}

-- ---- a variable that stands in no test has the value 0

unused-named : (b : Buffer) (ns : List Named) (ps : List Place) (w : ℕ) → any_of (λ n. is_variable w n.term) ns ≡ false → value_in (map (place b) ns ++ ps) w ≡ value_in ps w
unfolding value_in
unused-named b [] ps w e = refl
unused-named b (n ∷ ns) ps w e =
    let rest = or_right (is_variable w n.term) (any_of (λ n. is_variable w n.term) ns) e in
    rw (or_left (is_variable w n.term) (any_of (λ n. is_variable w n.term) ns) e) (unused-named b ns ps w rest)

unused-in : (s : State) (ts : List Test) (w : ℕ) → stands_in ts w ≡ false → value_in (places ts s) w ≡ 0
unfolding value_in places
unused-in s [] w e = refl
unused-in s (t ∷ ts) w e =
    unused-named (buffer_of s t.buffer) t.named (places ts s) w (or_left (any_of (λ n. is_variable w n.term) t.named) (stands_in ts w) e)
    ∙ unused-in s ts w (or_right (any_of (λ n. is_variable w n.term) t.named) (stands_in ts w) e)

-- ---- the entry of a rule

module _ (r : Rule) (s : State) where
  entry-one : matches r s ≡ true → get_or (entry_of r s) 0 0 ≡ 1
  unfolding entry_of
  entry-one e = rw e refl

  entry-zeros : matches r s ≡ false → entry_of r s ≡ replicate 9 0
  unfolding entry_of
  entry-zeros e = rw e refl

  by-match : {C : Type 0} → (matches r s ≡ true → C) → (matches r s ≡ false → C) → C
  by-match {C} f g = (elim (matches r s) as (λ t. matches r s ≡ t → C) [ true ↦ f | false ↦ g ]) refl

  pub entered : Entered r s (entry_of r s)
  entered =
      record {
        nine = entry_length r s;
        one = λ h. entry-one (is-match r s h);
        values = λ v h w l e. value-binds r s v h (variable w) (and-true (ltb w 8) (stands_in r.tests w) (lt-ltb w 8 l) e);
        unused = λ w l e. by-match (λ t. entry_value r s w t l ∙ unused-in s r.tests w e) (λ f. rw (entry-zeros f) (get_or-replicate 9 (w + 1) 0 0 (omega arith)));
        zeros = λ no. by-match (λ t. absurd (no (matches-bind r s t))) entry-zeros;
      }

-- the words of rule k in the fresh table are its entry
pub fresh-entered : (rules : List Rule) (s : State) (k : ℕ) (r : Rule) → At r k rules → Entered r s (entry_at k (fresh_table rules s))
fresh-entered rules s k r h = rw (fresh-entry-at r h s) (entered r s)
