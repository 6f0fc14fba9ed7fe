-- The fields of a store: the notes that they stand for, and what they keep.
use Rattle.std.specs.Prelude.{◌≡◌, true, List, length, vec_items}
use Rattle.std.specs.List.{list_all}
use Rattle.rules.specs.Notes.{Note}
use Rattle.rules.specs.Sound.{whole}
use Rattle.buffer.specs.declared.store.Store.TheInside.{Inside}
use Rattle.buffer.specs.Places.{lies, notes_from}

-- the notes of a store, in their order, from its fields
abbrev pub notes_in : Inside → List Note
notes_in s = notes_from (vec_items s.tokens) (vec_items s.text) (vec_items s.places)

-- each place lies within the tokens and the text, and each note there is whole
pub record IsCut (s : Inside) : Type 0 where
  pub within : list_all (lies (length (vec_items s.tokens)) (length (vec_items s.text))) (vec_items s.places) ≡ true
  pub lawful : list_all whole (notes_in s) ≡ true
