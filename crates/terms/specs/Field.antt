-- The fields of a record behind its kind.
use Rattle.std.specs.Prelude.{ℕ, Bool, List, [], ◌∷◌, nat_eq}
use Rattle.std.specs.List.{list_any}
use Rattle.terms.specs.declared.kind.Field.{Field}
use Rattle.terms.specs.declared.kind.Field.TheVariants.{Anywhere, Count, Note, MetavarNote, Short, Name, Metavar, Variable}

-- the fields, numbered from 0 in this order
abbrev pub fields : List Field
fields = Anywhere ∷ Count ∷ Note ∷ MetavarNote ∷ Short ∷ Name ∷ Metavar ∷ Variable ∷ []

-- the number of a field
abbrev pub field_number : Field → ℕ
field_number Anywhere = 0
field_number Count = 1
field_number Note = 2
field_number MetavarNote = 3
field_number Short = 4
field_number Name = 5
field_number Metavar = 6
field_number Variable = 7

-- a field is in a list
abbrev pub is_in : Field → List Field → Bool
is_in f fs = list_any (λ g. nat_eq (field_number f) (field_number g)) fs
