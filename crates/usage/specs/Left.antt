-- What a call for a line makes of the sheet.
use Rattle.std.specs.Prelude.{◌≡◌, if◌then◌else◌, List, Ok, Err, Result, MatchResult, ◌==◌}
use Rattle.rules.specs.Content.{Content, Op, blank, written}
use Rattle.buffer.specs.Contents.{SheetState}
use Rattle.buffer.specs.declared.sheet.Full.{Full}
use Rattle.buffer.specs.Contents.{Over}
use Rattle.meta.specs.Rejections.{fault_number}
use Rattle.meta.specs.declared.rejection.Rejection.{Rejection}

-- the sheet s, emptied, became t by a writer of ops that answered r: either they are all that stands there, or they do not fit
abbrev pub Anew : SheetState → List Op → SheetState → Result (Unit {0}) Full → Type 0
Anew s ops t r =
    (t.limits ≡ s.limits) × MatchResult r (λ _. t.content ≡ written ops) (λ _. Over s.limits (written ops))

-- the line; nothing, where it does not fit; and what stood there before, where the call is refused for another reason
abbrev pub left_by : Result (Unit {0}) Rejection → (before line : Content) → Content
left_by (Ok x) before line = line
left_by (Err e) before line = if fault_number e.fault == 32 then blank else before
