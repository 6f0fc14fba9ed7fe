-- The laws of writes, one behind the other: what they make of a content, and that what does not fit never fits with more behind it.
use Rattle.std.proofs.Common.{◌≡◌, ℕ, ◌+◌, ◌<◌, ◌≤◌, min, false, leb, ◌⊎◌, List, [], ◌∷◌, ◌++◌, length, refl, inl, inr, ⊎_elim, append_assoc, arith, length-append}
use Rattle.std.proofs.lemmas.List.{append-nil}
use Rattle.std.proofs.lemmas.Bool.{leb-false, lt-leb, and_left, and_right, and_cases}
use Rattle.terms.specs.declared.text.Style.{Style}
use Rattle.terms.specs.declared.text.Token.{Token}
use Rattle.rules.specs.Notes.{Note}
use Rattle.rules.specs.Tree.{no_note}
use Rattle.rules.specs.Content.{Content, Limits, Op, tok, str, raw, extend, apply, applies, fits}
use Rattle.buffer.specs.Contents.{Over}
use Rattle.buffer.proofs.Growth.{extend_more, extend_joins}

-- a content is over the limits where its tokens or its bytes are too many
pub over_tokens : (l : Limits) (c : Content) → min l.tokens 4096 < length c.tokens → Over l c
unfolding Over
over_tokens l c h = and_left _ _ (lt-leb (length c.tokens) (min l.tokens 4096) h)

pub over_bytes : (l : Limits) (c : Content) → min l.bytes 32768 < length c.bytes → Over l c
unfolding Over
over_bytes l c h = and_right _ _ (lt-leb (length c.bytes) (min l.bytes 32768) h)

-- and only there
pub over_cases : (l : Limits) (c : Content) → Over l c → (min l.tokens 4096 < length c.tokens) ⊎ (min l.bytes 32768 < length c.bytes)
unfolding Over
over_cases l c h =
    ⊎_elim
    (λ e. inl (leb-false (length c.tokens) (min l.tokens 4096) e))
    (λ e. inr (leb-false (length c.bytes) (min l.bytes 32768) e))
    (and_cases (leb (length c.tokens) (min l.tokens 4096)) (leb (length c.bytes) (min l.bytes 32768)) h)

-- over the limits is what does not fit
pub over-fits : (l : Limits) (c : Content) → Over l c → fits l c ≡ false
unfolding Over
over-fits l c h = h

-- a write makes neither count less
apply_more : (c : Content) (op : Op) → (length c.tokens ≤ length (apply c op).tokens) × (length c.bytes ≤ length (apply c op).bytes)
unfolding apply
apply_more c (tok t) = (simp length-append (omega arith), omega arith)
apply_more c (str st s) = (extend_more c.tokens st (length s), simp length-append (omega arith))
apply_more c (raw n) = (simp length-append (omega arith), simp length-append (omega arith))

over_by_more : (l : Limits) (c d : Content) → length c.tokens ≤ length d.tokens → length c.bytes ≤ length d.bytes → Over l c → Over l d
over_by_more l c d p q h = ⊎_elim (λ a. over_tokens l d (omega arith)) (λ b. over_bytes l d (omega arith)) (over_cases l c h)

pub over-apply : (l : Limits) (c : Content) (op : Op) → Over l c → Over l (apply c op)
over-apply l c op h = over_by_more l c (apply c op) (apply_more c op).0 (apply_more c op).1 h

pub over-applies : (l : Limits) (c : Content) (ops : List Op) → Over l c → Over l (applies c ops)
over-applies l c [] h = h
over-applies l c (op ∷ ops) h = over-applies l (apply c op) ops (over-apply l c op h)

pub applies-++ : (c : Content) (a b : List Op) → applies c (a ++ b) ≡ applies (applies c a) b
applies-++ c [] b = refl
applies-++ c (op ∷ a) b = applies-++ (apply c op) a b

-- two texts of one style behind each other are one
pub apply_joins : (c : Content) (st : Style) (a b : List ℕ) → apply (apply c (str st a)) (str st b) ≡ apply c (str st (a ++ b))
unfolding apply
apply_joins c st a b = simp (extend_joins, append_assoc, length-append)

-- a text that does not fit, does not fit with more behind it
pub over-longer : (l : Limits) (c : Content) (st : Style) (a b : List ℕ) → Over l (apply c (str st a)) → Over l (apply c (str st (a ++ b)))
over-longer l c st a b h = rw apply_joins at (over-apply l (apply c (str st a)) (str st b) h)

-- the same of a text whose first byte, or first two, are written apart
pub over_first : (l : Limits) (c : Content) (st : Style) (x : ℕ) (b : List ℕ) → Over l (apply c (str st (x ∷ []))) → Over l (apply c (str st (x ∷ b)))
over_first l c st x b h = over-longer l c st (x ∷ []) b h

pub over_second : (l : Limits) (c : Content) (st : Style) (x y : ℕ) (b : List ℕ) → Over l (apply c (str st (x ∷ y ∷ []))) → Over l (apply c (str st (x ∷ y ∷ b)))
over_second l c st x y b h = over-longer l c st (x ∷ y ∷ []) b h

-- the same of a byte and a text behind it, written apart
pub over_inner : (l : Limits) (c : Content) (st : Style) (x : ℕ) (a b : List ℕ) → Over l (apply (apply c (str st (x ∷ []))) (str st a)) → Over l (apply c (str st (x ∷ (a ++ b))))
over_inner l c st x a b h = over-longer l c st (x ∷ a) b (rw apply_joins at h)

-- a note with nothing in it leaves what stands there
pub raw_nothing : (c : Content) → c ≡ apply c (raw no_note)
unfolding apply
raw_nothing c = simp append-nil

-- what the primitive writes refuse does not fit
pub tok_over : (l : Limits) (c : Content) (t : Token) → l.tokens ≤ length c.tokens → Over l (apply c (tok t))
unfolding apply
tok_over l c t h = over_tokens l (apply c (tok t)) (simp length-append (omega arith))

pub str_over_tokens : (l : Limits) (c : Content) (st : Style) (s : List ℕ) → l.tokens < length (extend c.tokens st (length s)) → Over l (apply c (str st s))
unfolding apply
str_over_tokens l c st s h = over_tokens l (apply c (str st s)) (omega arith)

pub str_over_bytes : (l : Limits) (c : Content) (st : Style) (s : List ℕ) → l.bytes < length c.bytes + length s → Over l (apply c (str st s))
unfolding apply
str_over_bytes l c st s h = over_bytes l (apply c (str st s)) (simp length-append (omega arith))

pub raw_over_tokens : (l : Limits) (c : Content) (n : Note) → l.tokens < length c.tokens + length n.tokens → Over l (apply c (raw n))
unfolding apply
raw_over_tokens l c n h = over_tokens l (apply c (raw n)) (simp length-append (omega arith))

pub raw_over_bytes : (l : Limits) (c : Content) (n : Note) → l.bytes < length c.bytes + length n.bytes → Over l (apply c (raw n))
unfolding apply
raw_over_bytes l c n h = over_bytes l (apply c (raw n)) (simp length-append (omega arith))

-- what a writer that is made of others answers by: `search (rules, writes)`
pub ruleset writes = (applies-++, over-apply, over-applies, apply_joins, over_first, over_second, over_inner)
