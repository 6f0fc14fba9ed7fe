-- The marks that fours of bytes are.
use Rattle.std.specs.Prelude.{ℕ, ◌+◌, ◌*◌, Bool, true, false, ◌&&◌, List, [], ◌∷◌, Some, None, Option, slice_index, ◌==◌}
use Rattle.terms.specs.Token.{sizes}
use Rattle.terms.specs.declared.text.Mark.{Mark}
use Rattle.rules.specs.Notes.{mark_of, before, nested, ended, tokens_of}

-- the mark that four bytes are
abbrev pub mark_in : List ℕ → Option Mark
mark_in b = mark_of (slice_index b 0) (slice_index b 1) (slice_index b 2 + 256 * slice_index b 3)

-- the marks that fours of bytes are, if each of them is one
abbrev pub marks_in : List (List ℕ) → Option (List Mark)
marks_in [] = Some []
marks_in (b ∷ bs) = before (mark_in b) (marks_in bs)

-- there are marks, and they keep what they must over a text of so many bytes
abbrev pub agreeing : ℕ → Option (List Mark) → Bool
agreeing bytes None = false
agreeing bytes (Some ms) = nested [] ms && ended true ms && sizes (tokens_of ms) == bytes
