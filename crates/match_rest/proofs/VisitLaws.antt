-- What a visit leaves of the sets, from what each number put in or taken out leaves.
use Prim.Native.Nat.{ℕ, ◌+◌, ◌*◌, ◌/◌, ◌%◌, ◌<◌}
use mathlib.Core.Path.{◌≡◌, ◌∙◌}
use mathlib.Core.List.{List}
use native.Mathlib.Omega.{arith}
use lib.ListN.{length}
use Rattle.match_sets.specs.Sets.{has}
use Rattle.match_sets.proofs.SetLaws.{put_in, put_word, put_other, remove-out, remove-word, remove-other}
use Rattle.match_rule.specs.declared.Tried.TheVariants.{Hit, Differs, Varies}
use Rattle.match_beds.specs.Moves.{Besides, Lain}
use Rattle.match_beds.proofs.MoveLaws.{PutIn, TakenOut}
use Rattle.match_rest.specs.Visits.{Settled}

pub besides-both : (k : ℕ) (s s' s'' : List ℕ) → Besides k s s' → Besides k s' s'' → Besides k s s''
besides-both k s s' s'' x y =
    record {
      size = y.size ∙ x.size;
      testers = λ j i a b. y.testers j i a b ∙ x.testers j i a b;
      sure = λ j i a b. y.sure j i a b ∙ x.sure j i a b;
      awake = λ q l d. y.awake q l d ∙ x.awake q l d;
      beds = λ h q l m b. y.beds h q l m (x.beds h q l m b);
      used = λ p l u. y.used p l (x.used p l u);
    }

-- ---- what was found is noted

-- only a word of the matching rules has changed
besides-hits : (k at : ℕ) (s s' : List ℕ) → at < 256 → length s' ≡ length s → ((j i : ℕ) → (j ≡ 4 + at / 64 → ⊥) → has s' j i ≡ has s j i) → Besides k s s'
besides-hits k at s s' low size same =
    record {
      size = size;
      testers = λ j i a b. same j i (λ e. omega arith);
      sure = λ j i a b. same j i (λ e. omega arith);
      awake = λ q l d. same (q / 64) (q % 64) (λ e. omega arith);
      beds = λ h q l m b. same (52 + 256 * (q / 64) + h) (q % 64) (λ e. omega arith) ∙ b;
      used = λ p l u. same (40 + p / 11) (p % 11) (λ e. omega arith) ∙ u;
    }

module _ (k at : ℕ) (s s' : List ℕ) (few : k < 256) (low : at < 256) (size : length s' ≡ length s) where
  pub settled-hit : PutIn 4 at s s' → Settled Hit k at s s'
  settled-hit put =
      record {
        besides = besides-hits k at s s' low size (put_word s s' 4 at put);
        others = λ p l d. put_other s s' 4 at put p d;
        own = put_in s s' 4 at put;
        lies = put_word s s' 4 at put (k / 64) (k % 64) (λ e. omega arith);
      }

  pub settled-varies : TakenOut 4 at s s' → Settled Varies k at s s'
  settled-varies out =
      record {
        besides = besides-hits k at s s' low size (remove-word s s' 4 at out);
        others = λ p l d. remove-other s s' 4 at out p d;
        own = remove-out s s' 4 at out;
        lies = remove-word s s' 4 at out (k / 64) (k % 64) (λ e. omega arith);
      }

  pub settled-differs : (place value : ℕ) (s'' : List ℕ) → TakenOut 4 at s s' → Lain k place value s' s'' → Settled (Differs place value) k at s s''
  settled-differs place value s'' out down =
      record {
        besides = besides-both k s s' s'' (besides-hits k at s s' low size (remove-word s s' 4 at out)) down.besides;
        others = λ p l d. down.hits (4 + p / 64) (p % 64) (omega arith) (omega arith) ∙ remove-other s s' 4 at out p d;
        own = down.hits (4 + at / 64) (at % 64) (omega arith) (omega arith) ∙ remove-out s s' 4 at out;
        lies = (down.bed, down.down);
      }
