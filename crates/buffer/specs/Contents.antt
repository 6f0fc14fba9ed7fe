-- What a sheet holds and may hold, in the words of the rules, and what a write makes of it.
use Rattle.std.specs.Prelude.{◌≡◌, ◌≤◌, min, true, false, List, length, Result, MatchResult, OnOk, OnErr}
use Rattle.terms.specs.Token.{sizes}
use Rattle.rules.specs.Content.{Content, Limits, Op, apply, applies, fits}
use Rattle.buffer.specs.declared.sheet.Full.{Full}
use Rattle.buffer.specs.declared.sheet.TheConstants.{MOST_TOKENS, MOST_BYTES}

-- what stands on a sheet, and how much may
pub record SheetState : Type 0 where
  pub content : Content
  pub limits : Limits

-- what holds of every sheet: its texts' lengths add up to its bytes, it is within its limits, and these are within the most
pub record IsSound (s : SheetState) : Type 0 where
  pub adds : sizes s.content.tokens ≡ length s.content.bytes
  pub within : fits s.limits s.content ≡ true
  pub limited : s.limits.tokens ≤ MOST_TOKENS
  pub small : s.limits.bytes ≤ MOST_BYTES

-- the limits of a sheet that is made for these: none is above the most that a sheet takes
abbrev pub lowered : Limits → Limits
lowered l = record { tokens = min l.tokens 4096; bytes = min l.bytes 32768 }

-- a content is more than the limits allow
unfoldable pub Over : Limits → Content → Type 0
Over l c = fits l c ≡ false

-- the sheet s became t by a writer of ops that answered r: either all of them are written, or they do not fit
abbrev pub Wrote : SheetState → List Op → SheetState → Result (Unit {0}) Full → Type 0
Wrote s ops t r = (t.limits ≡ s.limits) × MatchResult r (λ _. t.content ≡ applies s.content ops) (λ _. Over s.limits (applies s.content ops))

-- the same of a single op, where a refusal leaves what stands on the sheet as it was, and what is written fits
abbrev pub Put : SheetState → Op → SheetState → Result (Unit {0}) Full → Type 0
Put s op t r =
    (t.limits ≡ s.limits)
    × MatchResult r (λ _. t.content ≡ apply s.content op) (λ _. Over s.limits (apply s.content op))
    × OnErr r (t.content ≡ s.content)
    × OnOk r (fits t.limits t.content ≡ true)
