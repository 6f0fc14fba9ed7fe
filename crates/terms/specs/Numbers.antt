-- Numbers that stand for the cases of a type.
use Rattle.std.specs.Prelude.{◌≡◌, ℕ, List, Some, None, Result, MatchResult, slice_get}
use Rattle.terms.specs.declared.number.UnknownNumber.{UnknownNumber}

-- the result is the case of that number among the cases, or an error with the number, which no case has
abbrev pub IsNumbered : {X : Type 0} → List X → ℕ → Result X UnknownNumber → Type 0
IsNumbered cases n r = MatchResult r (λ x. slice_get cases n ≡ Some x) (λ e. (e.0 ≡ n) × (slice_get cases n ≡ None))
