-- Where a word ends.
use Rattle.std.proofs.Common.{◌≡◌, ℕ, suc, ◌+◌, ◌≤◌, Bool, true, false, if◌then◌else◌, ◌==◌, eqb, List, [], ◌∷◌, length, take, Some, Option, refl, ap, ◌∙◌, arith}
use Rattle.std.proofs.lemmas.List.{length-take}
use Rattle.std.specs.Option.{unwrap_or}
use Rattle.std.specs.List.{position_from}
use Rattle.rules.specs.Records.{word_of}

-- a word ends at the first zero
ends_from : (i n b : ℕ) (o : Option ℕ) (word : List ℕ) (t : Bool) → unwrap_or o (i + 1 + n) ≡ i + 1 + length word →
    unwrap_or (if t then Some i else o) (i + suc n) ≡ i + length (if t then [] else b ∷ word)
ends_from i n b o word true e = omega arith
ends_from i n b o word false e = let h : i + suc n ≡ i + 1 + n = omega arith in ap (unwrap_or o) h ∙ (e ∙ omega arith)

word_ends : (bs : List ℕ) (i : ℕ) → unwrap_or (position_from (λ b. b == 0) i bs) (i + length bs) ≡ i + length (word_of bs)
word_ends [] i = refl
word_ends (b ∷ bs) i = ends_from i (length bs) b (position_from (λ c. c == 0) (i + 1) bs) (word_of bs) (eqb b 0) (word_ends bs (i + 1))

ends_at : (bs : List ℕ) → unwrap_or (position_from (λ b. b == 0) 0 bs) (length bs) ≡ length (word_of bs)
ends_at bs =
    let h : length bs ≡ 0 + length bs = omega arith in
    ap (unwrap_or (position_from (λ b. b == 0) 0 bs)) h ∙ (word_ends bs 0 ∙ omega arith)

-- a word is the front of its bytes
word_from : (b : ℕ) (bs word : List ℕ) (t : Bool) → take (length word) bs ≡ word → take (length (if t then [] else b ∷ word)) (b ∷ bs) ≡ (if t then [] else b ∷ word)
word_from b bs word true e = refl
word_from b bs word false e = ap (λ xs. b ∷ xs) e

pub word_front : (bs : List ℕ) → take (length (word_of bs)) bs ≡ word_of bs
word_front [] = refl
word_front (b ∷ bs) = word_from b bs (word_of bs) (eqb b 0) (word_front bs)

-- up to the first zero, or to the end where there is none
pub word_taken : (bs : List ℕ) → take (unwrap_or (position_from (λ b. b == 0) 0 bs) (length bs)) bs ≡ word_of bs
word_taken bs = ap (λ n. take n bs) (ends_at bs) ∙ word_front bs

pub word_within : (bs : List ℕ) → unwrap_or (position_from (λ b. b == 0) 0 bs) (length bs) ≤ length bs
word_within bs = let e = ends_at bs in let f = ap length (word_front bs) in omega (arith, length-take (length (word_of bs)) bs)
