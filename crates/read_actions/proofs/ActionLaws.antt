-- One action: its buffer, and then its kind and deed; the words of a rule, parted where its actions begin.
use Rattle.std.specs.Prelude.{Result, Ok, Err}
use Prim.Native.Nat.{ℕ, ◌%◌, ◌≤◌, ◌<◌}
use mathlib.Core.Path.{◌≡◌, refl, sym, ap, ◌∙◌}
use mathlib.Core.List.{List, ◌++◌}
use native.Mathlib.Omega.{arith}
use lib.ListN.{length, get_or, set, take}
use Rattle.std.proofs.Common.{take_all}
use lib.Seq.{get_or-set_same, take_at, drop_at}
use Rattle.meaning.specs.declared.reasons.Refusal.{Refusal}
use Rattle.meaning.specs.Numbers.{finer, bad_buffer}
use Rattle.meaning.specs.Model.{Test, Deed, Sizes}
use Rattle.meaning.specs.Read.{Read, read_got, follow, field, must}
use Rattle.meaning.specs.Image.{a_buffer, kind_rule, deed, action}
use Rattle.laws.specs.ReadLaws.{follow-follow}
use Rattle.layout.specs.Rows.{test_in, action_in, tests_in, actions_in}
use Rattle.layout.proofs.WordLaws.{below_get}
use Rattle.layout.proofs.RowLaws.{in-same, in-drop, test-like, action-like}
use Rattle.read_ranges.specs.Cursors.{Cursor}
use Rattle.read_ranges.specs.Reading.{told_by}
use Rattle.read_deeds.specs.Deeds.{deed_in, kind_and_deed, acts}

-- ---- an action

module _ (z : Sizes) (variables : ℕ) (ts : List Test) (least : ℕ) (s : List ℕ) (p : ℕ) where
  pub action-on : (b q : ℕ) → read_got b q ≡ field 3 (must bad_buffer (a_buffer z.buffers least)) s p → (r : Result Unit Refusal) (c : Cursor) (d : Deed)
      → told_by (λ u. d) r c ≡ kind_and_deed z variables ts b s q → told_by (λ u. acts b d) r c ≡ action finer z variables ts least s p
  unfolding action
  action-on b q e r c d g =
      rw (← e)
      (go r ∙ ap (λ (r : Read Deed). follow r (λ d n. read_got (acts b d) n)) g
      ∙ follow-follow (field 2 (kind_rule finer ts b) s q) (λ kind n. deed finer z variables ts b kind s n) (λ d n. read_got (acts b d) n))
    where
      go : (r : Result Unit Refusal) → told_by (λ u. acts b d) r c ≡ follow (told_by (λ u. d) r c) (λ d n. read_got (acts b d) n)
      go (Ok u) = refl
      go (Err x) = refl

-- the row's first word was written before the deed, and stayed: it is the buffer
pub action-row : (row row' : List ℕ) (b : ℕ) → length row ≡ 11 → b < 8 → take 1 row' ≡ take 1 (set row 0 b) → action_in row' 0 ≡ acts b (deed_in row')
action-row row row' b long small e =
    let first : get_or row' 0 0 ≡ b = below_get 1 (set row 0 b) row' e 0 (omega arith) ∙ get_or-set_same row 0 b 0 (omega arith) in
    let same : get_or row' 0 0 % 8 ≡ b = omega arith in
    ap (λ (x : ℕ). acts x (deed_in row')) same

-- ---- a rule's words, parted where its actions begin

module _ (front rows : List ℕ) (long : length front ≡ 97) where
  pub front-tests : (n : ℕ) → n ≤ 8 → tests_in (front ++ rows) 0 n ≡ tests_in front 0 n
  front-tests n h = in-same test_in test-like (front ++ rows) front 0 n (λ j l. below_get 97 front (front ++ rows) (take_at front rows 97 long ∙ sym (take_all 97 front (omega arith))) j (omega arith))

  pub back-actions : (m : ℕ) → actions_in (front ++ rows) 97 m ≡ actions_in rows 0 m
  back-actions m = sym (rw (drop_at front rows 97 long) at (in-drop action_in action-like (front ++ rows) 97 0 97 m refl))
