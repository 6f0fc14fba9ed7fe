-- That the next number of a book is no node's child.
use Rattle.std.proofs.lemmas.Option.{slice_get_within}
use Rattle.std.proofs.Common.{◌≡◌, ℕ, suc, ◌<◌, ◌≤◌, Bool, true, false, ltb, List, [], ◌∷◌, length, Some, refl, arith}
use Rattle.std.proofs.lemmas.Bool.{and_parts, ltb-true, ne_eqb, or_from}
use Rattle.std.specs.List.{list_all, list_any}
use Rattle.std.specs.Prelude.{slice_get}
use Rattle.rules.specs.Plain.{Plain, has_parent}
use Rattle.rules.proofs.Stood.{stood}
use Rattle.rules.specs.Sound.{Sound}
use Rattle.meta.proofs.Rising.{has}

any_none : {A : Type 0} (ok : A → Bool) (xs : List A) → ((k : ℕ) (x : A) → slice_get xs k ≡ Some x → ok x ≡ false) → list_any ok xs ≡ false
any_none ok [] h = refl
any_none ok (x ∷ xs) h = or_from _ _ (h 0 x refl) (any_none ok xs (λ k y e. h (suc k) y e))

above : (ks : List ℕ) (k m : ℕ) → k ≤ m → list_all (λ c. ltb c k) ks ≡ true → has m ks ≡ false
above [] k m l h = refl
above (c ∷ ks) k m l h =
    let p = and_parts _ _ h in
    let low : c < k = ltb-true c k p.0 in
    or_from _ _ (ne_eqb m c (λ e. omega arith)) (above ks k m l p.1)

pub next_free : (p : Plain) → Sound p → has_parent p.nodes (length p.nodes) ≡ false
next_free p s =
    any_none (λ n. has (length p.nodes) n.children) p.nodes
    (λ k n e.
    let within : k < length p.nodes = slice_get_within p.nodes k n e in
    above n.children k (length p.nodes) (omega arith) (stood (length p.notes) k n (s.standing k n e)).below)
