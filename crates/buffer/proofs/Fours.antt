-- How bytes are read as marks, four at a time. Assumes nothing.
use Rattle.std.proofs.lemmas.Bool.{false≢true}
use Rattle.std.proofs.Common.{◌≡◌, ℕ, zero, suc, ◌+◌, ◌*◌, ◌/◌, ◌%◌, List, [], ◌∷◌, length, true, Some, None, Option, sym, refl, ap, ◌∙◌, arith}
use Rattle.std.specs.Simd.{first_chunks}
use Rattle.terms.specs.declared.text.Mark.{Mark}
use Rattle.rules.specs.Notes.{mark_of, marks_of, before, lawful_marks, is_store}
use Rattle.buffer.specs.Marks.{marks_in}

before-none : (m : Option Mark) → before m None ≡ None
before-none None = refl
before-none (Some m) = refl

-- bytes that are not whole fours are no marks
pub marks_of-rest : (bs : List ℕ) → (length bs % 4 ≡ 0 → ⊥) → marks_of bs ≡ None
marks_of-rest [] h = absurd (h refl)
marks_of-rest (a ∷ []) h = refl
marks_of-rest (a ∷ b ∷ []) h = refl
marks_of-rest (a ∷ b ∷ c ∷ []) h = refl
marks_of-rest (a ∷ b ∷ c ∷ d ∷ bs) h =
    let k : length bs % 4 ≡ 0 → ⊥ = λ e. h (omega arith) in
    ap (before (mark_of a b (c + 256 * d))) (marks_of-rest bs k) ∙ before-none (mark_of a b (c + 256 * d))

in_fours : (k : ℕ) (bs : List ℕ) → length bs ≡ k * 4 → marks_in (first_chunks 4 k bs) ≡ marks_of bs
in_fours zero [] e = refl
in_fours zero (a ∷ bs) e = absurd (omega arith)
in_fours (suc k) [] e = absurd (omega arith)
in_fours (suc k) (a ∷ []) e = absurd (omega arith)
in_fours (suc k) (a ∷ b ∷ []) e = absurd (omega arith)
in_fours (suc k) (a ∷ b ∷ c ∷ []) e = absurd (omega arith)
in_fours (suc k) (a ∷ b ∷ c ∷ d ∷ bs) e = ap (before (mark_of a b (c + 256 * d))) (in_fours k bs (omega arith))

-- whole fours of bytes are the marks of these fours
pub marks_in-fours : (bs : List ℕ) → length bs % 4 ≡ 0 → marks_in (first_chunks 4 (length bs / 4) bs) ≡ marks_of bs
marks_in-fours bs e = in_fours (length bs / 4) bs (omega arith)

fours_by : (m t : List ℕ) (k : ℕ) → length m % 4 ≡ k → is_store m t ≡ true → length m % 4 ≡ 0
fours_by m t zero e h = e
fours_by m t (suc k) e h =
    let z : length m % 4 ≡ 0 → ⊥ = λ q. omega arith in
    absurd (false≢true (sym (ap (lawful_marks m t) (marks_of-rest m z)) ∙ h))

-- a lawful store's marks are whole fours of bytes
pub fours : (m t : List ℕ) → is_store m t ≡ true → length m % 4 ≡ 0
fours m t h = fours_by m t (length m % 4) refl h
