-- Lists of numbers that rise, and what is left of one once its last numbers are taken out.
use Rattle.std.proofs.Common.{◌≡◌, ℕ, zero, suc, ◌<◌, Bool, true, false, if◌then◌else◌, not, ◌||◌, eqb, List, [], ◌∷◌, take, drop, filter, refl, ap, ◌∙◌, arith}
use Rattle.std.proofs.lemmas.Bool.{eq-eqb, ne_eqb, cond-true, cond-false, or_left, or_right, or_from}
use Rattle.rules.proofs.Each.{All-weaker, All-drop}
use Rattle.std.specs.List.{AllByRecursion as All, list_any}
use Rattle.rules.proofs.Kept.{Rises}

-- a number is among these
abbrev pub has : ℕ → List ℕ → Bool
has i ks = list_any (eqb i) ks

-- what is above every element is not among them, nor what is below
pub has_not_above : (ks : List ℕ) (i : ℕ) → All (λ k. k < i) ks → has i ks ≡ false
has_not_above [] i a = refl
has_not_above (k ∷ ks) i (l, a) = or_from _ _ (ne_eqb i k (λ e. omega arith)) (has_not_above ks i a)

pub has_not_below : (ks : List ℕ) (i : ℕ) → All (λ k. i < k) ks → has i ks ≡ false
has_not_below [] i a = refl
has_not_below (k ∷ ks) i (l, a) = or_from _ _ (ne_eqb i k (λ e. omega arith)) (has_not_below ks i a)

pub has_all : (xs : List ℕ) → All (λ i. has i xs ≡ true) xs
has_all [] = tt
has_all (x ∷ xs) = (or_left _ _ (eq-eqb x x refl), All-weaker (λ i. has i xs ≡ true) (λ i. has i (x ∷ xs) ≡ true) (λ i h. or_right _ _ h) xs (has_all xs))

pub kept_none : (p : ℕ → Bool) (xs : List ℕ) → All (λ i. p i ≡ true) xs → filter (λ i. not (p i)) xs ≡ []
kept_none p [] a = refl
kept_none p (x ∷ xs) (h, a) = cond-false _ _ _ (ap not h) ∙ kept_none p xs a

-- without its last numbers, a list that rises is its first ones
pub kept_front : (m : ℕ) (xs : List ℕ) → Rises xs → filter (λ i. not (has i (drop m xs))) xs ≡ take m xs
kept_front zero xs r = kept_none (λ i. has i xs) xs (has_all xs)
kept_front (suc m) [] r = refl
kept_front (suc m) (x ∷ xs) (a, r) =
    cond-true _ _ _ (ap not (has_not_below (drop m xs) x (All-drop (λ y. x < y) m xs a))) ∙ ap (λ t. x ∷ t) (kept_front m xs r)

-- one test after another
pub kept_twice : (p q : ℕ → Bool) (xs : List ℕ) → filter (λ i. not (p i || q i)) xs ≡ filter (λ i. not (q i)) (filter (λ i. not (p i)) xs)
kept_twice p q [] = refl
kept_twice p q (x ∷ xs) =
    elim (p x) as (λ t. (if not (t || q x) then x ∷ filter (λ i. not (p i || q i)) xs else filter (λ i. not (p i || q i)) xs) ≡ filter (λ i. not (q i)) (if not t then x ∷ filter (λ i. not (p i)) xs else filter (λ i. not (p i)) xs)) [
      | true ↦ kept_twice p q xs
      | false ↦ ap (λ t. if not (q x) then x ∷ t else t) (kept_twice p q xs)
    ]

pub kept_same : (p q : ℕ → Bool) → ((i : ℕ) → p i ≡ q i) → (xs : List ℕ) → filter p xs ≡ filter q xs
kept_same p q e [] = refl
kept_same p q e (x ∷ xs) = ap (λ t. if t then x ∷ filter p xs else filter p xs) (e x) ∙ ap (λ t. if q x then x ∷ t else t) (kept_same p q e xs)
