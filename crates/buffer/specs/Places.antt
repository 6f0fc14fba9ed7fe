-- Where the notes of a store stand among its tokens and bytes.
use Rattle.std.specs.Prelude.{ℕ, ◌+◌, Bool, ◌&&◌, List, map, take, drop, nat_le}
use Rattle.terms.specs.declared.text.Token.{Token}
use Rattle.rules.specs.Notes.{Note}
use Rattle.buffer.specs.declared.store.Span.{Span}
use Rattle.buffer.specs.declared.store.Place.{Place}

module _ {X : Type 0} where
  -- the part of a list that a span has
  abbrev pub part : Span → List X → List X
  part s xs = take s.count (drop s.first xs)

-- a span ends within so many
abbrev pub ends : ℕ → Span → Bool
ends n s = nat_le (s.first + s.count) n

-- a place lies within so many tokens and bytes
abbrev pub lies : (tokens bytes : ℕ) → Place → Bool
lies tokens bytes p = ends tokens p.tokens && ends bytes p.text

-- the note at a place
abbrev pub note_from : List Token → List ℕ → Place → Note
note_from ts bs p = record { tokens = part p.tokens ts; bytes = part p.text bs }

-- the notes at places
abbrev pub notes_from : List Token → List ℕ → List Place → List Note
notes_from ts bs ps = map (note_from ts bs) ps
