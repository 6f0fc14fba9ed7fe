-- What holds of each element of a list, by recursion over it.
use Rattle.std.proofs.Common.{◌≡◌, ℕ, zero, suc, ◌<◌, Bool, true, false, if◌then◌else◌, List, [], ◌∷◌, ◌++◌, length, take, drop, filter, slice_index_or, refl, arith}
use Rattle.std.specs.List.{AllByRecursion as All}

module _ {X : Type 0} (P : X → Type 0) where
  pub All-weaker : (Q : X → Type 0) → ((x : X) → P x → Q x) → (xs : List X) → All P xs → All Q xs
  All-weaker Q f [] h = tt
  All-weaker Q f (x ∷ xs) (h, hs) = (f x h, All-weaker Q f xs hs)

  pub All-append : (xs ys : List X) → All P xs → All P ys → All P (xs ++ ys)
  All-append [] ys h k = k
  All-append (x ∷ xs) ys (h, hs) k = (h, All-append xs ys hs k)

  pub All-push : (xs : List X) (x : X) → All P xs → P x → All P (xs ++ x ∷ [])
  All-push xs x h k = All-append xs (x ∷ []) h (k, tt)

  pub All-take : (n : ℕ) (xs : List X) → All P xs → All P (take n xs)
  All-take zero xs h = tt
  All-take (suc n) [] h = tt
  All-take (suc n) (x ∷ xs) (h, hs) = (h, All-take n xs hs)

  pub All-drop : (n : ℕ) (xs : List X) → All P xs → All P (drop n xs)
  All-drop zero xs h = h
  All-drop (suc n) [] h = tt
  All-drop (suc n) (x ∷ xs) (h, hs) = All-drop n xs hs

  pub All-index : (xs : List X) (i : ℕ) (d : X) → i < length xs → All P xs → P (slice_index_or xs i d)
  All-index [] i d l _ = elim l [ ]
  All-index (x ∷ xs) zero d l (h, hs) = h
  All-index (x ∷ xs) (suc i) d l (h, hs) = All-index xs i d (omega arith) hs

  pub All-filter : (p : X → Bool) (xs : List X) → All P xs → All P (filter p xs)
  All-filter p [] h = tt
  All-filter p (x ∷ xs) (h, hs) =
      elim (p x) as (λ t. All P (if t then x ∷ filter p xs else filter p xs)) [
        | true ↦ (h, All-filter p xs hs)
        | false ↦ All-filter p xs hs
      ]

-- what a filter keeps passes
pub filter-passes : {X : Type 0} (p : X → Bool) (xs : List X) → All (λ x. p x ≡ true) (filter p xs)
filter-passes p [] = tt
filter-passes p (x ∷ xs) = go (p x) refl (filter-passes p xs)
  where
    go : (b : Bool) → p x ≡ b → All (λ y. p y ≡ true) (filter p xs) → All (λ y. p y ≡ true) (if b then x ∷ filter p xs else filter p xs)
    go true e h = (e, h)
    go false e h = h
