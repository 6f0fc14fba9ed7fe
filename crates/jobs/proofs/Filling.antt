-- A book that is filled, record by record.
use Rattle.std.proofs.Common.{◌≡◌, ℕ, List, ◌∷◌, Some, None, Ok, Err, Option, sym, refl, ap, ◌∙◌}
use Rattle.rules.specs.Rejection.{Rejection}
use Rattle.rules.specs.Plain.{Plain, add_rule, added, grown, unless}
use Rattle.meta.specs.Rejections.{by_rule}
use Rattle.jobs.specs.Jobs.{filled, unless_rejected}

-- what a table says where its answer is a value, and where it is a rejection
pub accepted : {X : Type 0} (o : Option Rejection) (x y : X) → Ok x ≡ by_rule o y → o ≡ None
accepted None x y h = refl
accepted (Some e) x y h = cc

pub refused : {X : Type 0} (o : Option Rejection) (e : Rejection) (y : X) → Err e ≡ by_rule o y → o ≡ Some e
refused None e y h = cc
refused (Some d) e y h = cc

-- an accepted record: the others fill the book that it leaves
pub filled_on : (p q : Plain) (r : List ℕ) (rs : List (List ℕ)) → add_rule p r ≡ None → q ≡ added p r → filled q rs ≡ filled p (r ∷ rs)
filled_on p q r rs h e = ap (λ b. filled b rs) e ∙ sym (ap (λ o. unless_rejected o p (filled (added p r) rs)) h)

-- a rejected record: the book stays
pub filled_off : (p : Plain) (r : List ℕ) (rs : List (List ℕ)) (e : Rejection) → add_rule p r ≡ Some e → filled p (r ∷ rs) ≡ record { left = p; rejected = Some e }
filled_off p r rs e h = ap (λ o. unless_rejected o p (filled (added p r) rs)) h

pub added_off : (p : Plain) (r : List ℕ) (e : Rejection) → add_rule p r ≡ Some e → added p r ≡ p
added_off p r e h = ap (λ o. unless o (grown p r) p) h
