-- When marks and text bytes are a lawful store. Assumes nothing.
use Rattle.std.proofs.Common.{◌≡◌, ℕ, ◌*◌, ◌/◌, ◌%◌, ◌<◌, ◌≤◌, Bool, true, false, if◌then◌else◌, ◌&&◌, eqb, leb, List, [], length, Some, None, Option, sym, refl, ap, ◌∙◌, arith}
use Rattle.std.specs.List.{list_all}
use Rattle.std.proofs.lemmas.Bool.{le-leb}
use Rattle.std.proofs.lemmas.Bool.Decides.{nat_tests}
use Rattle.terms.specs.Token.{sizes}
use Rattle.terms.specs.declared.text.Mark.{Mark}
use Rattle.rules.specs.Notes.{nested, ended, tokens_of, text_byte, marks_of, lawful_marks, is_store, cut, opened, notes_of}
use Rattle.buffer.specs.Marks.{agreeing}
use Rattle.buffer.proofs.Fours.{marks_of-rest}

gt-leb : (n k : ℕ) → k < n → leb n k ≡ false
gt-leb n k h = grind (arith, nat_tests)

-- bytes that are not whole marks
pub unlawful-rest : (m t : List ℕ) → (length m % 4 ≡ 0 → ⊥) → false ≡ is_store m t
unlawful-rest m t h = sym (ap (lawful_marks m t) (marks_of-rest m h))

long_marks : (m t : List ℕ) (o : Option (List Mark)) → leb (length m) (4 * 2048) ≡ false → false ≡ lawful_marks m t o
long_marks m t None e = refl
long_marks m t (Some ms) e = sym (ap (λ (u : Bool). u && leb (length t) 16384 && list_all text_byte t && nested [] ms && ended true ms && eqb (sizes (tokens_of ms)) (length t)) e)

-- more marks than a store has
pub unlawful-marks : (m t : List ℕ) → 2048 < length m / 4 → false ≡ is_store m t
unlawful-marks m t h = long_marks m t (marks_of m) (gt-leb (length m) (4 * 2048) (omega arith))

long-text : (m t : List ℕ) (o : Option (List Mark)) (b : Bool) → leb (length m) (4 * 2048) ≡ b → leb (length t) 16384 ≡ false → false ≡ lawful_marks m t o
long-text m t None b d e = refl
long-text m t (Some ms) true d e =
    sym (ap (λ (u : Bool). u && leb (length t) 16384 && list_all text_byte t && nested [] ms && ended true ms && eqb (sizes (tokens_of ms)) (length t)) d
    ∙ ap (λ (u : Bool). u && list_all text_byte t && nested [] ms && ended true ms && eqb (sizes (tokens_of ms)) (length t)) e)
long-text m t (Some ms) false d e = long_marks m t (Some ms) d

-- more text than a store has
pub unlawful-text : (m t : List ℕ) → 16384 < length t → false ≡ is_store m t
unlawful-text m t h = long-text m t (marks_of m) (leb (length m) (4 * 2048)) refl (gt-leb (length t) 16384 h)

few : (m t : List ℕ) (o : Option (List Mark)) (x : Bool) → list_all text_byte t ≡ x → leb (length m) (4 * 2048) ≡ true → leb (length t) 16384 ≡ true → x && agreeing (length t) o ≡ lawful_marks m t o
few m t None true c d e = refl
few m t None false c d e = refl
few m t (Some ms) true c d e = simp (c, d, e)
few m t (Some ms) false c d e = simp (c, d, e)

-- within the limits, the text and the marks decide
pub lawful_few : (m t : List ℕ) → length m / 4 ≤ 2048 → length m % 4 ≡ 0 → length t ≤ 16384 → list_all text_byte t && agreeing (length t) (marks_of m) ≡ is_store m t
lawful_few m t h r g = few m t (marks_of m) (list_all text_byte t) refl (le-leb _ _ (omega arith)) (le-leb _ _ g)

no_notes : (m t : List ℕ) (o : Option (List Mark)) → lawful_marks m t o ≡ false → [] ≡ opened m t o
no_notes m t None e = refl
no_notes m t (Some ms) e = sym (ap (λ (u : Bool). if u then cut [] t ms else []) e)

-- a store that is not lawful has no notes
pub unlawful-notes : (m t : List ℕ) → is_store m t ≡ false → [] ≡ notes_of m t
unfolding notes_of
unlawful-notes m t e = no_notes m t (marks_of m) e
