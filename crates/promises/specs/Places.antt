-- The words of request 2026-03, "say where an image is bad": which numbers have a position, which finer number stands for which of 01's, what it is to be refused
-- alike, that reading comes to a field at a bit, and what holds of an image whatever follows its first bits.
use Rattle.std.specs.Prelude.{◌≡◌, false, List, ℕ, suc, ◌+◌, ◌*◌, ◌≤◌, ◌<◌, length}
use Rattle.meaning.specs.Base.{every, up_from}
use Rattle.meaning.specs.Numbers.{finer, not_there, bad_number, bad_mask, bad_variable, bad_buffer}
use Rattle.meaning.specs.Model.{Model, Sizes, Rule, Test}
use Rattle.meaning.specs.Bits.{bit_at, field_at}
use Rattle.meaning.specs.Read.{Read, read_refused, read_got, Reader, and_then, Judgement, field}
use Rattle.meaning.specs.Image.{Head, tests, stands_in, body, model, decode}
use Rattle.promises.specs.Sentences.{BrokenRule}

-- "the position of the offending field's first bit for 2, 3 and these"
pub data HasPlace : ℕ → Type 0 where
  of-a-gap : HasPlace not_there
  of-a-rule : {n : ℕ} → BrokenRule n → HasPlace n

-- a number and the position that a call answers with it: "the offending field's first bit for 2, 3 and these, else 0"
pub data Located (image : List ℕ) : ℕ → ℕ → Type 0 where
  somewhere : {n at : ℕ} → decode image ≡ read_refused n at → HasPlace n → Located image n at
  nowhere : {n : ℕ} → (HasPlace n → ⊥) → Located image n 0

-- ---- "Everything refused stays refused and nothing new is."

-- the finer number that stands for one of 01's: 11, 12 and 13 for 3, each other for itself
pub data StandsFor : ℕ → ℕ → Type 0 where
  for-a-mask : StandsFor bad_mask bad_number
  for-a-variable : StandsFor bad_variable bad_number
  for-a-buffer : StandsFor bad_buffer bad_number
  itself : {n : ℕ} → n ≤ 10 → StandsFor n n

-- both accept, and give the same; or both refuse, at the same position, and the one's number stands for the other's
pub data SameVerdict {A : Type 0} : Read A → Read A → Type 0 where
  both-accept : {a : A} {next : ℕ} → SameVerdict (read_got a next) (read_got a next)
  both-refuse : {n c at : ℕ} → StandsFor n c → SameVerdict (read_refused n at) (read_refused c at)

-- ---- "the first bit of the first field that is refused"

-- Reading comes to a line of the definition at a bit: it begins with the whole image at bit 0, goes into the first of two things, and past it once it was read. So all
-- that stands before that bit was read, and is in order.
pub data ComesTo (image : List ℕ) : (A : Type 0) → Reader A → ℕ → Type 1 where
  begins : ComesTo image Model (model finer) 0
  into : {A B : Type 0} (p : Reader A) (k : A → Reader B) {at : ℕ} → ComesTo image B (and_then p k) at → ComesTo image A p at
  past : {A B : Type 0} (p : Reader A) (k : A → Reader B) {a : A} {at after : ℕ} → ComesTo image B (and_then p k) at → p image at ≡ read_got a after → ComesTo image B (k a) after

-- an image begins as another does, up to a bit: it has the bits before it, and they are the same
pub record BeginsAs (image : List ℕ) (at : ℕ) (image' : List ℕ) : Type 0 where
  pub reaches : at ≤ 8 * length image'
  pub same : (p : ℕ) → p < at → bit_at image' p ≡ bit_at image p

-- what holds of every image that begins so, the image itself among them
abbrev pub WhateverFollows : List ℕ → ℕ → (List ℕ → Type 0) → Type 0
WhateverFollows image at holds = (image' : List ℕ) → length image' ≤ 65536 → BeginsAs image at image' → holds image'

-- A field begins at this bit, of the width and by the rule that the definition has there, and is refused by this number. Whatever follows the bits before it, reading
-- takes that field there: if it is not wholly there it stops by 2, if it breaks the rule by the number that the rule says, both at its first bit; and if it keeps the rule,
-- no field is refused before its end.
pub record FieldAtBit (image : List ℕ) (n at : ℕ) : Type 1 where
  pub width : ℕ
  pub rule : Judgement
  pub comes : ComesTo image ℕ (field width rule) at
  pub refused : field width rule image at ≡ read_refused n at
  pub some : 0 < width
  pub narrow : width ≤ 16
  pub short : WhateverFollows image at λ image'. 8 * length image' < at + width → decode image' ≡ read_refused not_there at
  pub broken : WhateverFollows image at λ image'. at + width ≤ 8 * length image' → (k : ℕ) → rule (field_at image' at width) ≡ suc k → decode image' ≡ read_refused (suc k) at
  pub kept : WhateverFollows image at λ image'. at + width ≤ 8 * length image' → rule (field_at image' at width) ≡ 0 → (k x : ℕ) → decode image' ≡ read_refused k x → HasPlace k → at + width ≤ x

-- "For a variable in no test it is that of the bit after the last test": reading comes to a rule after its head, its tests end at this bit, and some variable of the
-- rule stands in none of them. So reading stops here by 12, whatever follows.
pub record TestsEndAt (image : List ℕ) (at : ℕ) : Type 1 where
  pub version : ℕ
  pub sizes : Sizes
  pub head : Head
  pub tests_at : ℕ
  pub ts : List Test
  pub comes : ComesTo image Rule (body finer version sizes head) tests_at
  pub tests_read : tests finer sizes head.variables head.tests image tests_at ≡ read_got ts at
  pub in_none : every (stands_in ts) (up_from 0 head.variables) ≡ false
  pub stays : WhateverFollows image at λ image'. decode image' ≡ read_refused bad_variable at
