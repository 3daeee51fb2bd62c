-- What the reading of an image promises.
use Rattle.std.specs.Prelude.{if◌then◌else◌, ℕ, ◌+◌, ◌*◌, ◌≤◌, ◌≡◌, List, Result, Ok, Err, IfOk, OnOk, ltb, length, take, drop}
use Rattle.meaning.specs.declared.reasons.Refusal.{Refusal}
use Rattle.meaning.specs.Numbers.{finer, too_long}
use Rattle.meaning.specs.Reasons.{number_of}
use Rattle.meaning.specs.Model.{Model}
use Rattle.meaning.specs.Read.{Read, read_refused, read_got}
use Rattle.meaning.specs.Image.{Header, header, Beginning, beginning, Contents, decode}
use Rattle.layout.specs.declared.Plan.{Plan}
use Rattle.layout.specs.Walks.{Small}
use Rattle.layout.specs.StateWords.{state_in}
use Rattle.layout.specs.Plans.{types_on, opening_on, facts_on, rules_on, model_on, Planned}
use Rattle.read_opening.specs.Parts.{Bounds, header_in, Placed, opening_state}
use Rattle.read_ranges.specs.Cursors.{Cursor}
use Rattle.read_ranges.specs.Reading.{told_by, Follows}

-- ---- the parts of a model on a tape

abbrev pub beginning_on : Plan → List ℕ → Beginning
beginning_on p tape = record { head = header_in p; types = types_on p tape; opening = opening_on p tape }

abbrev pub contents_on : Plan → List ℕ → Contents
contents_on p tape = record { facts = facts_on p tape; rules = rules_on p tape }

-- ---- what is promised

-- the sections of a plan follow each other, and its counts are those that an image may have
pub record InBounds (p : Plan) : Type 0 where
  pub starts : Placed p
  pub bounds : Bounds p.buffers p.declared p.rules p.facts

-- there are at most 256 rules, and a plan is as long as they need, with room on the largest tape
pub record Fitting (p : Plan) : Type 0 where
  pub few_rules : p.rules ≤ 256
  pub long : 191 * p.rules ≤ p.end
  pub fits : p.end ≤ 58328

-- "image over 65,536 bytes" comes first
abbrev pub header_of : List ℕ → Read Header
header_of image = if ltb 65536 (length image) then read_refused too_long 0 else header finer image 0

-- an image whose header was read, as the code's value of it says
pub record Started : Type 0 where
  pub image : List ℕ
  pub at : ℕ
  pub plan : Plan

-- what holds of it: its header is the definition's, up to a place within the image, and so is the plan
pub record Begins (image : List ℕ) (at : ℕ) (p : Plan) : Type 0 where
  pub reads : read_got (header_in p) at ≡ header_of image
  pub within : at ≤ 8 * length image
  pub short : length image ≤ 65536
  pub in_bounds : InBounds p
  pub fitting : Fitting p

-- the header that was read, or the refusal
abbrev pub begun_read : Result Started Refusal → Read Header
begun_read (Ok b) = read_got (header_in b.plan) b.at
begun_read (Err r) = read_refused (number_of r.reason) r.at

-- a refusal of the header of that image
abbrev pub RefusedOf : Refusal → List ℕ → Type 0
RefusedOf r image = read_refused (number_of r.reason) r.at ≡ header_of image

-- slot counts and opening chunks that were laid out: the definition's beginning or refusal, in the same image;
-- and of those that were not refused, that the types given back are those on the tape, with at most eight slots each, and the opening section is the opening state
pub record OpeningMet (r : Result (List ℕ) Refusal) (p : Plan) (old new : Cursor) (tape : List ℕ) : Type 0 where
  pub reads : told_by (λ types. beginning_on p tape) r new ≡ beginning finer old.image 0
  pub follows : Follows old new
  pub types : IfOk r (λ types. types_on p tape ≡ take (p.declared + 1) types)
  pub small : OnOk r (Small (types_on p tape))
  pub opens : OnOk r (state_in (drop 64 tape) 0 ≡ opening_state p.buffers (opening_on p tape))

-- a thing, and the bit after the last field, or the refusal
abbrev pub ended_by : {A : Type 0} → Result ℕ Refusal → A → Read A
ended_by (Ok at) x = read_got x at
ended_by (Err r) x = read_refused (number_of r.reason) r.at

-- the answer with what stands on the tape is what the definition decodes; and of an accepted image, plan and tape are as `Planned` says
pub record LaidOut (r : Result ℕ Refusal) (p : Plan) (image tape : List ℕ) : Type 0 where
  pub reads : ended_by r (model_on p tape) ≡ decode image
  pub planned : OnOk r (Planned p tape)

-- an answer without its value: the refusal, or the position after
abbrev pub verdict : {A : Type 0} → Read A → Read (Unit {0})
verdict (read_refused n at) = read_refused n at
verdict (read_got x at) = read_got tt at

-- whether an image is accepted, and that it then has as many rules as its plan says
pub record Checked (r : Result ℕ Refusal) (p : Plan) (image : List ℕ) : Type 0 where
  pub reads : ended_by r tt ≡ verdict (decode image)
  pub many : (m : Model) (q : ℕ) → decode image ≡ read_got m q → length m.rules ≡ p.rules
