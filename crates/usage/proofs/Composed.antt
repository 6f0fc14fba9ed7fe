-- Writes behind each other, over whole writers.
use Rattle.std.proofs.Common.{◌≡◌, ℕ, true, List, [], ◌∷◌, ◌++◌, is_err, Ok, Err, Result, sym, ap, ◌∙◌, subst, ap₂, arith}
use Rattle.std.specs.Prelude.{slice_get, unwrap_or}
use Rattle.terms.specs.declared.text.Style.TheVariants as S
use Rattle.rules.specs.Notes.{Note}
use Rattle.rules.specs.Tree.{Meta, no_note}
use Rattle.rules.specs.Reading.{reading}
use Rattle.rules.specs.Content.{Content, Limits, Op, str, applies, blank, written, spell, doc}
use Rattle.buffer.specs.Contents.{SheetState}
use Rattle.buffer.specs.declared.sheet.Full.{Full}
use Rattle.buffer.specs.Contents.{Over, Wrote, Put}
use Rattle.usage.specs.Left.{Anew}
use Rattle.buffer.proofs.Writing.{applies-++, over-applies}

-- a writer behind one that wrote all
pub wrote_then : (s t u : SheetState) (a b : List Op) (r : Result (Unit {0}) Full) → Wrote s a t (Ok tt) → Wrote t b u r → Wrote s (a ++ b) u r
wrote_then s t u a b (Ok x) (l, e) w = (w.0 ∙ l, w.1 ∙ ap (λ (c : Content). applies c b) e ∙ sym (applies-++ s.content a b))
wrote_then s t u a b (Err x) (l, e) w = (
  w.0 ∙ l,
  subst (λ (c : Content). Over s.limits c) (ap (λ (c : Content). applies c b) e ∙ sym (applies-++ s.content a b))
      (subst (λ (m : Limits). Over m (applies t.content b)) l w.1),
)

-- what is refused is refused with more behind it
pub over_more : (l : Limits) (c : Content) (a b : List Op) → Over l (applies c a) → Over l (applies c (a ++ b))
over_more l c a b h = subst (λ (d : Content). Over l d) (sym (applies-++ c a b)) (over-applies l (applies c a) b h)

-- the same ops
pub wrote_as : (s t : SheetState) (a b : List Op) (r : Result (Unit {0}) Full) → a ≡ b → Wrote s b t r → Wrote s a t r
wrote_as s t a b r e w = subst (λ (ops : List Op). Wrote s ops t r) (sym e) w

-- a single op, as a list of one
pub wrote_one : (s t : SheetState) (op : Op) (r : Result (Unit {0}) Full) → Put s op t r → Wrote s (op ∷ []) t r
wrote_one s t op r w = (w.0, w.1)

-- a refusal that is passed on, with more behind it
pub wrote_stop : (s t : SheetState) (a b : List Op) (r : Result (Unit {0}) Full) → is_err r ≡ true → (t.limits ≡ s.limits) × Over s.limits (applies s.content a) → Wrote s (a ++ b) t r
wrote_stop s t a b (Ok x) e h = let z : ◌≡◌ {A = ℕ} 0 1 = cc in absurd (omega arith)
wrote_stop s t a b (Err x) e (l, h) = (l, over_more s.limits s.content a b h)

-- a tree of another name
pub wrote_tree : (s v : SheetState) (t u : Meta) (r : Result (Unit {0}) Full) → t ≡ u → Wrote s (spell (reading u)) v r → Wrote s (spell (reading t)) v r
wrote_tree s v t u r e w = wrote_as s v (spell (reading t)) (spell (reading u)) r (ap (λ (x : Meta). spell (reading x)) e) w

-- three writers behind each other
pub wrote_three : (s t u v : SheetState) (a b d : List Op) (r : Result (Unit {0}) Full) → Wrote s a t (Ok tt) → Wrote t b u (Ok tt) → Wrote u d v r → Wrote s (a ++ (b ++ d)) v r
wrote_three s t u v a b d r f g h = wrote_then s t v a (b ++ d) r f (wrote_then t u v b d r g h)

-- where the second of three is refused
pub stopped_second : (s t u : SheetState) (a b d : List Op) (r : Result (Unit {0}) Full) → is_err r ≡ true → Wrote s a t (Ok tt) → (u.limits ≡ t.limits) × Over t.limits (applies t.content b) → Wrote s (a ++ (b ++ d)) u r
stopped_second s t u a b d r e f g = wrote_then s t u a (b ++ d) r f (wrote_stop t u b d r e g)

-- the same note
pub doc_as : (a b : List Note) (m n : ℕ) → a ≡ b → m ≡ n → doc (unwrap_or (slice_get a m) no_note) ≡ doc (unwrap_or (slice_get b n) no_note)
doc_as a b m n e f = ap₂ (λ (s : List Note) (k : ℕ). doc (unwrap_or (slice_get s k) no_note)) e f

-- a writer behind one that began anew
pub anew_then : (s t u : SheetState) (a b : List Op) (r : Result (Unit {0}) Full) → Anew s a t (Ok tt) → Wrote t b u r → Anew s (a ++ b) u r
anew_then s t u a b (Ok x) (l, e) w = (w.0 ∙ l, w.1 ∙ ap (λ (c : Content). applies c b) e ∙ sym (applies-++ blank a b))
anew_then s t u a b (Err x) (l, e) w = (
  w.0 ∙ l,
  subst (λ (c : Content). Over s.limits c) (ap (λ (c : Content). applies c b) e ∙ sym (applies-++ blank a b))
      (subst (λ (m : Limits). Over m (applies t.content b)) l w.1),
)

-- one that began anew and was refused, with more behind it
pub anew_stop : (s t : SheetState) (a b : List Op) (r : Result (Unit {0}) Full) → is_err r ≡ true → t.limits ≡ s.limits → Over s.limits (written a) → Anew s (a ++ b) t r
anew_stop s t a b (Ok x) e l h = let z : ◌≡◌ {A = ℕ} 0 1 = cc in absurd (omega arith)
anew_stop s t a b (Err x) e l h = (l, over_more s.limits blank a b h)

-- a sign, written as a text
pub wrote_sign : (s t : SheetState) (ops : List Op) (text : List ℕ) (r : Result (Unit {0}) Full) → ops ≡ str S.Text text ∷ [] → Put s (str S.Text text) t r → Wrote s ops t r
wrote_sign s t ops text r e w = wrote_as s t ops (str S.Text text ∷ []) r e (wrote_one s t (str S.Text text) r w)
