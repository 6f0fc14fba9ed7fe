-- The fields of a sheet: what they stand for, and what they keep.
use Rattle.std.specs.Prelude.{◌≡◌, ◌≤◌, vec_items, vec_len, vec_capacity}
use Rattle.terms.specs.Token.{sizes}
use Rattle.buffer.specs.declared.sheet.Sheet.TheInside.{Inside}
use Rattle.buffer.specs.declared.sheet.TheConstants.{MOST_TOKENS, MOST_BYTES}
use Rattle.buffer.specs.Contents.{SheetState}

-- what stands on a sheet and its limits, from its fields
abbrev pub state_of : Inside → SheetState
state_of s = record {
  content = record { tokens = vec_items s.tokens; bytes = vec_items s.bytes };
  limits = record { tokens = s.max_tokens; bytes = s.max_bytes };
}

-- the tokens stand for the bytes, and both are within the limits, for which there is memory
pub record IsHeld (s : Inside) : Type 0 where
  pub adds : sizes (vec_items s.tokens) ≡ vec_len s.bytes
  pub few : vec_len s.tokens ≤ s.max_tokens
  pub short : vec_len s.bytes ≤ s.max_bytes
  pub room : s.max_tokens ≤ vec_capacity s.tokens
  pub space : s.max_bytes ≤ vec_capacity s.bytes
  pub limited : s.max_tokens ≤ MOST_TOKENS
  pub small : s.max_bytes ≤ MOST_BYTES
