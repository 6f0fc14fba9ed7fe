-- What the programs do with the bytes of their files.
use Rattle.std.specs.Prelude.{ℕ, ◌+◌, ◌-◌, ◌/◌, List, [], ◌∷◌, length, Some, None, Ok, Err, Option, Result}
use Rattle.rules.specs.Lists.{stretches}
use Rattle.rules.specs.Rejection.{Rejection}
use Rattle.rules.specs.Plain.{Plain, new, add_rule, added}
use Rattle.rules.specs.Reading.{reading_of}
use Rattle.rules.specs.Content.{Content, Limits, line}
use Rattle.buffer.specs.Contents.{SheetState}
use Rattle.meta.specs.Rejections.{rejection_of, by_rule}
use Rattle.usage.specs.Calls.{usage_rule}
use Rattle.jobs.specs.declared.line.LineError.{LineError}
use Rattle.jobs.specs.declared.line.LineError.TheVariants.{Refused, NoMemory}

-- the records in the bytes of a file: stretches of 128 bytes; a broken tail is one more
unfoldable pub records_in : List ℕ → List (List ℕ)
records_in bs = stretches 128 ((length bs + 127) / 128) bs

-- the book that adds leave, and the rejection that ended them, if one did
pub record Filled : Type 0 where
  pub left : Plain
  pub rejected : Option Rejection

-- a rejection ends the adds with the book as it was
abbrev pub unless_rejected : Option Rejection → Plain → Filled → Filled
unless_rejected None p f = f
unless_rejected (Some e) p f = record { left = p; rejected = Some e }

-- a book after adds of records, until one is rejected
abbrev pub filled : Plain → List (List ℕ) → Filled
filled p [] = record { left = p; rejected = None }
filled p (r ∷ rs) = unless_rejected (add_rule p r) p (filled (added p r) rs)

-- the usage line of a root, or why there is none
abbrev pub usage_line : (bench : ℕ) → Limits → Plain → (root : ℕ) → Result Content Rejection
usage_line bench l p root = by_rule (usage_rule bench l p root) (line (reading_of p root))

-- a rejection that came first, or else an answer
abbrev pub unless_ended : Option Rejection → Result Content Rejection → Result Content Rejection
unless_ended None a = a
unless_ended (Some e) a = Err e

-- the usage line of the last node of a filled book, of node 0 where there is none
abbrev pub last_line : (bench : ℕ) → Limits → Filled → Result Content Rejection
last_line bench l f = unless_ended f.rejected (usage_line bench l f.left (length f.left.nodes - 1))

-- the usage line of the last record in the bytes of a file, over the marks and the text of a store
abbrev pub line_job : (marks text bytes : List ℕ) → Result Content Rejection
line_job marks text bytes = last_line 770 (record { tokens = 4096; bytes = 32768 }) (filled (new 256 marks text) (records_in bytes))

-- what an answer shows: what stands on its sheet, or its rejection by its four numbers; nothing, where memory ran out
abbrev pub seen : Result SheetState LineError → Option (Result Content Rejection)
seen (Ok s) = Some (Ok s.content)
seen (Err (Refused e)) = Some (Err (rejection_of e))
seen (Err (NoMemory e)) = None
