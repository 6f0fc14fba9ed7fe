-- What a whole note keeps. Assumes nothing.
use Rattle.std.proofs.Common.{◌≡◌, true, ◌&&◌, eqb, [], length}
use Rattle.std.proofs.lemmas.Bool.{and_parts, eqb-true}
use Rattle.std.specs.List.{list_all}
use Rattle.terms.specs.Token.{sizes}
use Rattle.rules.specs.Notes.{Note, text_byte}
use Rattle.rules.specs.Sound.{whole, nests}

-- its lengths add up to its bytes
pub whole_sized : (n : Note) → whole n ≡ true → sizes n.tokens ≡ length n.bytes
whole_sized n h =
    let p = and_parts (nests [] n.tokens && eqb (sizes n.tokens) (length n.bytes)) (list_all text_byte n.bytes) h in
    let q = and_parts (nests [] n.tokens) (eqb (sizes n.tokens) (length n.bytes)) p.0 in
    eqb-true (sizes n.tokens) (length n.bytes) q.1
