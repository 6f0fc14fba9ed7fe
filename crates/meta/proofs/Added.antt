-- What an add answers, by the row of the table that its fault stands for.
use Rattle.std.proofs.Common.{vec_len, ◌≡◌, ℕ, ◌<◌, ◌≤◌, min, Bool, true, false, not, leb, List, [], ◌∷◌, length, None, Some, Ok, Err, Option, Result, sym, refl, ap, ◌∙◌, arith}
use Rattle.std.proofs.lemmas.Bool.{eq-eqb, le-leb, lt-leb}
use Rattle.std.specs.Prelude.{IfOk, MatchResult}
use Rattle.std.specs.Result.{IsErrAnd}
use Rattle.std.specs.Option.{SomeIff}
use Rattle.std.specs.Bool.{then_some}
use Rattle.rules.specs.Rejection.{Rejection, reject, book}
use Rattle.rules.specs.Plain.{Plain, add_rule, kind_rows, grown, added, unless}
use Rattle.rules.specs.Records.{kind_of}
use Rattle.rules.specs.Lists.{first}
use Rattle.meta.specs.declared.book.Book.TheInside.{Inside}
use Rattle.meta.specs.View.{plain_of, IsBook}
use Rattle.meta.specs.Examined.{ByRows}
use Rattle.meta.proofs.Stands.{nodes_long, unplaced_long}
use Rattle.meta.specs.declared.rejection.Fault.{Fault}
use Rattle.meta.specs.declared.rejection.Fault.TheVariants as F
use Rattle.meta.specs.declared.rejection.Rejection.{Rejection as CodeRejection}
use Rattle.meta.specs.Rejections.{fault_number, layer_of, layer_letter, rejection_of, answer_of, by_rule}
use Rattle.meta.specs.Admitted.{row_of}

-- an answer whose fault became a rejection is the table's
pub answered :
    (p : Plain) (rule : Option Rejection) (o : Result ℕ Fault) (out : Result ℕ CodeRejection) (Becomes : Fault → CodeRejection → Type 0)
    → ((f : Fault) (e : CodeRejection) → Becomes f e → rejection_of e ≡ reject (fault_number f) (layer_letter (layer_of f)) (length p.nodes))
    → row_of p o ≡ rule
    → IfOk o (λ n. n ≡ length p.nodes)
    → MatchResult o (λ n. out ≡ Ok n) (λ f. IsErrAnd out (Becomes f))
    → answer_of out ≡ by_rule rule (length p.nodes)
answered p rule (Ok n) out Becomes shows row number same =
    ap answer_of same ∙ ap Ok number ∙ ap (λ r. by_rule r (length p.nodes)) row
answered p rule (Err f) (Ok n) Becomes shows row number same = absurd same
answered p rule (Err f) (Err e) Becomes shows row number same =
    ap (λ (r : Rejection). Err r) (shows f e same) ∙ ap (λ r. by_rule r (length p.nodes)) row

pub unchanged : (p : Plain) (r : List ℕ) (e : Rejection) → Some e ≡ add_rule p r → p ≡ added p r
unchanged p r e rule = ap (λ o. unless o (grown p r) p) rule

pub grows : (p : Plain) (r : List ℕ) → None ≡ add_rule p r → grown p r ≡ added p r
grows p r rule = ap (λ o. unless o (grown p r) p) rule

last_row : {A : Type 0} (a b : A) (o : Option A) → o ≡ first (then_some false a ∷ then_some false b ∷ o ∷ [])
last_row a b None = refl
last_row a b (Some x) = refl

-- the rows that ask for the size of a record and for a free place
module _ (b : Inside) (holds : IsBook b) {p : Plain} (is : plain_of b ≡ p) (r : List ℕ) (whole : length r ≡ 128) where
  rows : Plain → (s f : Bool) → Option Rejection
  rows q s f = first (then_some (not s) (reject 10 book (length q.nodes)) ∷ then_some f (reject 11 book (length q.nodes)) ∷ kind_rows q r (kind_of r) ∷ [])

  by_rows : (f : Bool) → leb (min b.places 256) (length (plain_of b).nodes) ≡ f → rows (plain_of b) true f ≡ add_rule p r
  unfolding rows
  by_rows f full =
      ap (rows (plain_of b) true) (sym full)
      ∙ ap (λ s. rows (plain_of b) s (leb (min b.places 256) (length (plain_of b).nodes))) (sym (eq-eqb (length r) 128 whole))
      ∙ ap (λ q. add_rule q r) is

  pub is_full : {m l : ℕ} → m ≡ min b.places 256 → l ≡ vec_len b.nodes → m ≤ l → row_of {A = ℕ} p (Err F.Full) ≡ add_rule p r
  unfolding rows
  is_full {m} {l} em el h =
      let full : min b.places 256 ≤ length (plain_of b).nodes = omega (arith, nodes_long b) in
      ap (λ (q : Plain). row_of {A = ℕ} q (Err F.Full)) (sym is) ∙ by_rows true (le-leb _ _ full)

  pub is_ruled :
      {m l n w : ℕ} (o : Result ℕ Fault)
      → m ≡ min b.places 256
      → l ≡ vec_len b.nodes
      → l < m
      → n ≡ length b.store
      → w ≡ vec_len b.unplaced
      → ByRows r n w o
      → row_of p o ≡ add_rule p r
  unfolding rows
  is_ruled {m} {l} o em el h en ew e =
      let free : length (plain_of b).nodes < min b.places 256 = omega (arith, nodes_long b) in
      ap (λ (q : Plain). row_of q o) (sym is)
      ∙ e (plain_of b) (sym en) (unplaced_long b holds ∙ sym ew)
      ∙ last_row (reject 10 book (length (plain_of b).nodes)) (reject 11 book (length (plain_of b).nodes)) (kind_rows (plain_of b) r (kind_of r))
      ∙ by_rows false (lt-leb _ _ free)

-- a value that is there exactly where a fact holds
pub some_of : {A P : Type 0} (o : Option A) (v x : A) → SomeIff o P v → o ≡ Some x → P × (x ≡ v)
some_of None v x h e = cc
some_of (Some y) v x h e = let same : y ≡ x = cc in (h.0, sym same ∙ h.1)
