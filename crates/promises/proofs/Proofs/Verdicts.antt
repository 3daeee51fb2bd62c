-- By 01's numbers and by the finer ones an image is judged alike: said of a field, kept by reading one thing after the other, and so of an image.
use Rattle.std.specs.Prelude.{if◌then◌else◌, ◌≡◌, refl, Bool, true, false, List, ℕ, suc, ◌+◌, ◌*◌, ltb, length}
use Rattle.std.proofs.Common.{arith}
use Rattle.meaning.specs.Base.{every, up_from}
use Rattle.meaning.specs.Numbers.{coarse, finer, too_long, not_there}
use Rattle.meaning.specs.Model.{Model, Sizes, Rule, Action, Query, Test}
use Rattle.meaning.specs.Bits.{field_at}
use Rattle.meaning.specs.Read.{Read, read_refused, read_got, Reader, follow, and_then, give, or_else, judged, field, require}
use Rattle.meaning.specs.Image.{Head, tests, stands_in, queries, actions, body, ending, model, decode_by}
use Rattle.laws.specs.FieldLaws.{FieldRule, free, of_number, of_mask, of-variable, of-buffer, both, judgement, all_fields, at_end, model-fields, all-each}
use Rattle.laws.specs.PlaceLaws.{end_refused}
use Rattle.promises.specs.Places.{StandsFor, for-a-mask, for-a-variable, for-a-buffer, itself, SameVerdict, both-accept, both-refuse}

-- two readers that judge alike,
-- wherever they begin
record Alike (A : Type 0) (p p' : Reader A) : Type 1 where
  verdict : (image : List ℕ) (at : ℕ) → SameVerdict (p image at) (p' image at)

-- what follows alike after what was judged alike
then_same : {A B : Type 0} {r r' : Read A} (k k' : A → ℕ → Read B) → ((a : A) (next : ℕ) → SameVerdict (k a next) (k' a next)) → SameVerdict r r' → SameVerdict (follow r k) (follow r' k')
then_same k k' h (both-accept {a} {next}) = h a next
then_same k k' h (both-refuse s) = both-refuse s

same_refl : {A : Type 0} (r : Read A) → ((n at : ℕ) → r ≡ read_refused n at → StandsFor n n) → SameVerdict r r
same_refl (read_refused n at) h = both-refuse (h n at refl)
same_refl (read_got a next) h = both-accept

-- ---- a field

-- two judgements: both say that the rule is kept, or the finer number stands for the coarser
data Judged : ℕ → ℕ → Type 0 where
  fine : Judged 0 0
  broken : {n c : ℕ} → StandsFor (suc n) (suc c) → Judged (suc n) (suc c)

judged-if : (n c : ℕ) → StandsFor (suc n) (suc c) → (t : Bool) → Judged (if t then 0 else suc n) (if t then 0 else suc c)
judged-if n c s true = fine
judged-if n c s false = broken s

judged-else : {a a' b b' : ℕ} → Judged a a' → Judged b b' → Judged (or_else a b) (or_else a' b')
judged-else fine q = q
judged-else (broken s) q = broken s

rules-judge : (r : FieldRule) (v : ℕ) → Judged (judgement finer r v) (judgement coarse r v)
rules-judge free v = fine
rules-judge (of_number holds) v = judged-if 2 2 (itself (omega arith)) (holds v)
rules-judge (of_mask holds) v = judged-if 10 2 for-a-mask (holds v)
rules-judge (of-variable holds) v = judged-if 11 2 for-a-variable (holds v)
rules-judge (of-buffer holds) v = judged-if 12 2 for-a-buffer (holds v)
rules-judge (both a b) v = judged-else (rules-judge a v) (rules-judge b v)

-- a field, by whether it is not wholly there, and by what its rule says
abbrev field_by : ℕ → List ℕ → ℕ → Bool → ℕ → Read ℕ
field_by width image at t n = if t then read_refused not_there at else (judged n (field_at image at width) at (at + width))

fields-alike : (width : ℕ) (r : FieldRule) → Alike ℕ (field width (judgement finer r)) (field width (judgement coarse r))
unfolding field
fields-alike width r = record { verdict = λ image at. by image at (ltb (8 * length image) (at + width)) (rules-judge r (field_at image at width)) }
  where
    by : (image : List ℕ) (at : ℕ) (t : Bool) {n c : ℕ} → Judged n c → SameVerdict (field_by width image at t n) (field_by width image at t c)
    by image at true j = both-refuse (itself {n = not_there} (omega arith))
    by image at false fine = both-accept
    by image at false (broken s) = both-refuse s

requires-alike : (holds : Bool) → Alike (Unit {0}) (require finer.variable holds) (require coarse.variable holds)
requires-alike true = record { verdict = λ image at. both-accept }
requires-alike false = record { verdict = λ image at. both-refuse for-a-variable }

-- ---- one thing after the other, and a rule's tests, queries and actions

gives-alike : (A : Type 0) (a : A) → Alike A (give a) (give a)
gives-alike A a = record { verdict = λ image at. both-accept }

follows-alike : (A B : Type 0) (p p' : Reader A) (k k' : A → Reader B) → Alike A p p' → ((a : A) → Alike B (k a) (k' a)) → Alike B (and_then p k) (and_then p' k')
follows-alike A B p p' k k' h g =
    record { verdict = λ image at. then_same (λ a next. k a image next) (λ a next. k' a image next) (λ a next. (g a).verdict image next) (h.verdict image at) }

bodies-alike : (version : ℕ) (z : Sizes) (h : Head) → Alike (List Test) (tests finer z h.variables h.tests) (tests coarse z h.variables h.tests)
    → Alike (List Query) (queries finer version z.buffers h.tests) (queries coarse version z.buffers h.tests)
    → ((ts : List Test) → Alike (List Action) (actions finer z h.variables ts h.actions) (actions coarse z h.variables ts h.actions))
    → Alike Rule (body finer version z h) (body coarse version z h)
unfolding body
bodies-alike version z h tested asked acted =
    follows-alike (List Test) Rule _ _ _ _ tested λ ts.
    follows-alike (Unit {0}) Rule _ _ _ _ (requires-alike (every (stands_in ts) (up_from 0 h.variables))) λ u.
    follows-alike (List Query) Rule _ _ _ _ asked λ qs.
    follows-alike (List Action) Rule _ _ _ _ (acted ts) λ as'.
    gives-alike Rule _

-- ---- an image

all_alike : Alike Model (all_fields finer) (all_fields coarse)
all_alike =
    all-each finer coarse Alike
    (record { gives = gives-alike; follows = follows-alike; fields = λ width some narrow r. fields-alike width r; bodies = bodies-alike })

end_same : (image : List ℕ) (m : Model) (at : ℕ) → SameVerdict (at_end image (read_got m at)) (at_end image (read_got m at))
end_same image m at =
    then_same (λ u end. read_got m end) (λ u end. read_got m end) (λ u end. both-accept)
    (same_refl (ending image at) (λ n x e. itself (omega (arith, (end_refused image at n x e).0))))

pub same-verdict : (image : List ℕ) → SameVerdict (decode_by finer image) (decode_by coarse image)
unfolding decode_by
same-verdict image =
    elim (ltb 65536 (length image)) as (λ t. SameVerdict (if t then read_refused too_long 0 else model finer image 0) (if t then read_refused too_long 0 else model coarse image 0)) [
      | true ↦ both-refuse (itself {n = too_long} (omega arith))
      | false ↦ rw (model-fields finer image 0, model-fields coarse image 0)
          (then_same (λ m at. at_end image (read_got m at)) (λ m at. at_end image (read_got m at)) (end_same image) (all_alike.verdict image 0))
    ]
