-- The note of a number. Assumes nothing.
use Rattle.std.proofs.Common.{◌≡◌, ℕ, zero, suc, ◌<◌, ◌≤◌, true, List, [], ◌∷◌, length, get_or, Some, None, unwrap_or, refl, ap, ◌∙◌, arith}
use Rattle.std.specs.List.{list_all, slice_get}
use Rattle.std.specs.Option.{option_map}
use Rattle.std.proofs.lemmas.Bool.{and_parts}
use Rattle.std.proofs.lemmas.Option.{slice_get-map, slice_get_read, slice_get_past}
use Rattle.terms.specs.Token.{sizes}
use Rattle.terms.specs.declared.text.Token.{Token}
use Rattle.rules.specs.Notes.{Note}
use Rattle.rules.specs.Tree.{no_note}
use Rattle.rules.specs.Sound.{whole}
use Rattle.buffer.specs.declared.store.Place.{Place}
use Rattle.buffer.specs.Places.{note_from, notes_from}
use Rattle.buffer.proofs.WholeNote.{whole_sized}

-- the note of a number is whole, there or not
pub whole_numbered : (ns : List Note) (n : ℕ) → list_all whole ns ≡ true → whole (unwrap_or (slice_get ns n) no_note) ≡ true
whole_numbered [] n h = refl
whole_numbered (x ∷ ns) zero h = (and_parts (whole x) (list_all whole ns) h).0
whole_numbered (x ∷ ns) (suc n) h = whole_numbered ns n (and_parts (whole x) (list_all whole ns) h).1

-- so its tokens' sizes add up to its bytes
pub sized_numbered : (ns : List Note) (n : ℕ) → list_all whole ns ≡ true → sizes (unwrap_or (slice_get ns n) no_note).tokens ≡ length (unwrap_or (slice_get ns n) no_note).bytes
sized_numbered ns n h = whole_sized (unwrap_or (slice_get ns n) no_note) (whole_numbered ns n h)

module _ (ts : List Token) (bs : List ℕ) (ps : List Place) (n : ℕ) where
  pub there : (p : Place) → n < length ps → p ≡ get_or ps n p → slice_get (notes_from ts bs ps) n ≡ Some (note_from ts bs p)
  there p h e = slice_get-map (note_from ts bs) ps n ∙ ap (option_map (note_from ts bs)) (slice_get_read ps (length ps) n p refl h e)

  pub absent : length ps ≤ n → slice_get (notes_from ts bs ps) n ≡ None
  absent h = slice_get-map (note_from ts bs) ps n ∙ ap (option_map (note_from ts bs)) (slice_get_past ps n h)

-- the note of a number that is there
pub numbered : (ns : List Note) (n : ℕ) → n < length ns → Some (unwrap_or (slice_get ns n) no_note) ≡ slice_get ns n
numbered [] n h = absurd (omega arith)
numbered (x ∷ ns) zero h = refl
numbered (x ∷ ns) (suc n) h = numbered ns n (omega arith)
