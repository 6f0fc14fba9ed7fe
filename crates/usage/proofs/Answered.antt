-- The answer to a call for a line, by the rows of the table.
use Rattle.std.proofs.Common.{◌≡◌, ℕ, Bool, true, false, not, [], ◌∷◌, Some, None, Ok, Err, Option, sym, refl, ap, ◌∙◌}
use Rattle.std.specs.Bool.{then_some}
use Rattle.rules.specs.Lists.{first}
use Rattle.rules.specs.Rejection.{Rejection, reject, sheet}
use Rattle.rules.specs.Plain.{Plain}
use Rattle.rules.specs.Content.{Content, Limits, fits}
use Rattle.rules.specs.Table.{no_node, small_bench, too_long}
use Rattle.meta.specs.Rejections.{by_rule}

-- the first two rows hold, so the third answers
passed : (a b c : Option Rejection) (x y : ℕ) → Ok x ≡ by_rule (first (a ∷ b ∷ [])) y → first (a ∷ b ∷ c ∷ []) ≡ first (c ∷ [])
passed None None c x y e = refl
passed None (Some r) c x y e = cc
passed (Some r) b c x y e = cc

pub answered_line : (p : Plain) (root places x y : ℕ) (l : Limits) (c : Content) → Ok x ≡ by_rule (first (no_node p root ∷ small_bench p root places ∷ [])) y → fits l c ≡ true → Ok tt ≡ by_rule {A = Unit {0}} (first (no_node p root ∷ small_bench p root places ∷ too_long l c root ∷ [])) tt
answered_line p root places x y l c e f =
    sym (ap (λ (o : Option Rejection). by_rule {A = Unit {0}} o tt)
    (passed (no_node p root) (small_bench p root places) (too_long l c root) x y e
    ∙ ap (λ (b : Bool). first (then_some (not b) (reject 32 sheet root) ∷ [])) f))

pub answered_long : (p : Plain) (root places x y : ℕ) (l : Limits) (c : Content) → Ok x ≡ by_rule (first (no_node p root ∷ small_bench p root places ∷ [])) y → fits l c ≡ false → Err (reject 32 sheet root) ≡ by_rule {A = Unit {0}} (first (no_node p root ∷ small_bench p root places ∷ too_long l c root ∷ [])) tt
answered_long p root places x y l c e f =
    sym (ap (λ (o : Option Rejection). by_rule {A = Unit {0}} o tt)
    (passed (no_node p root) (small_bench p root places) (too_long l c root) x y e
    ∙ ap (λ (b : Bool). first (then_some (not b) (reject 32 sheet root) ∷ [])) f))
