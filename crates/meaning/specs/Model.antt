-- What an accepted image stands for.
use Rattle.std.specs.Prelude.{List, ℕ, ℤ}

-- "kind 0 a symbol, kind 1 a variable number"
pub data Term : Type 0 where
  symbol : ℕ → Term
  variable : ℕ → Term

-- a slot that a mask names, with its term
pub record Named : Type 0 where
  pub slot : ℕ
  pub term : Term

-- "Test: buffer .., type .., slot mask .., then one term for each set bit"
pub record Test : Type 0 where
  pub buffer : ℕ
  pub isa : ℕ
  pub named : List Named

-- what a query asks of its buffer: "a kind, 2 bits: 0 busy (delay above 0), 1 free (delay 0), 2 error (visible, flag set)"
pub data Ask : Type 0 where
  busy : Ask
  free : Ask
  error : Ask

-- "for each a buffer .. and a kind"
pub record Query : Type 0 where
  pub buffer : ℕ
  pub asks : Ask

-- what an action does: "Kind 0, modify: mask and terms for the tested type .. Kind 1, request: type .., mask, terms. Kind 2, clear: nothing more."
pub data Deed : Type 0 where
  deed_modify : List Named → Deed
  deed_request : ℕ → List Named → Deed
  deed_clear : Deed

pub record Action : Type 0 where
  pub buffer : ℕ
  pub deed : Deed

-- a rule; its utility is "in thousandths", and its queries stand "after its tests"
pub record Rule : Type 0 where
  pub utility : ℤ
  pub tests : List Test
  pub queries : List Query
  pub actions : List Action

-- a chunk: its type and eight slot values, 0 past the type's slots. "Chunk names .. are not stored."
pub record Chunk : Type 0 where
  pub isa : ℕ
  pub slots : List ℕ

pub record Fact : Type 0 where
  pub chunk : Chunk
  pub activation : ℕ
  pub latency : ℕ

-- a model. `types` holds the slot count of each type from 0 to T: "0 is `chunk`, without slots; declared types are 1 to T"
pub record Model : Type 0 where
  pub buffers : ℕ
  pub types : List ℕ
  pub failure : ℕ
  pub opening : List Chunk
  pub facts : List Fact
  pub rules : List Rule

-- the buffer count and the types, which the fields of a rule are judged by
pub record Sizes : Type 0 where
  pub buffers : ℕ
  pub types : List ℕ
