-- More facts on a tape: rows after those that a plan knows of, in places that it has. All else that the tape means is as it was.
use Rattle.std.specs.Prelude.{ℕ, ◌+◌, ◌≡◌, List, ◌++◌, length, drop}
use Rattle.meaning.specs.Model.{Model, Fact}
use Rattle.layout.specs.declared.Plan.{Plan}
use Rattle.layout.specs.Plans.{model_on, Planned}

-- a plan that knows of another number of facts
abbrev pub with_facts : Plan → ℕ → Plan
with_facts p n =
    record {
      version = p.version;
      buffers = p.buffers;
      declared = p.declared;
      rules = p.rules;
      facts = n;
      failure = p.failure;
      places = p.places;
      learns = p.learns;
      chains = p.chains;
      heads = p.heads;
      rows = p.rows;
      order = p.order;
      end = p.end;
    }

-- a model with facts after its own
abbrev pub with_more : Model → List Fact → Model
with_more m new = record { buffers = m.buffers; types = m.types; failure = m.failure; opening = m.opening; facts = m.facts ++ new; rules = m.rules }

-- plan and tape, and what they have become with new facts
pub record Extended (p : Plan) (tape : List ℕ) (p' : Plan) (tape' : List ℕ) (new : List Fact) : Type 0 where
  pub plan : p' ≡ with_facts p (p.facts + length new)
  pub planned : Planned p' tape'
  pub model : model_on p' tape' ≡ with_more (model_on p tape) new
  -- heads, rows and order stand as they stood
  pub above : drop p.heads tape' ≡ drop p.heads tape
