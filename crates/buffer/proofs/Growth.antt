-- How a list of tokens grows by a text.
use Rattle.std.proofs.Common.{◌≡◌, ℕ, zero, suc, ◌+◌, ◌≤◌, Bool, true, false, if◌then◌else◌, eqb, List, [], ◌∷◌, ◌++◌, length, get_or, set, Some, None, refl, ap, ◌∙◌, add_assoc, arith}
use Rattle.terms.specs.Style.{style_number}
use Rattle.terms.specs.declared.text.Style.TheVariants as S
use Rattle.terms.specs.declared.text.Style.{Style}
use Rattle.terms.specs.Token.{sizes, len_in}
use Rattle.terms.specs.declared.text.Token.{Token}
use Rattle.terms.specs.declared.text.Token.TheVariants.{Text, BlockStart, BlockEnd}
use Rattle.rules.specs.Content.{grown, extend}
use Rattle.rules.proofs.Wholes.{sizes-append}
use Rattle.buffer.specs.Lengths.{end_len}

grown_more : (t : Token) (st : Style) (n : ℕ) → 1 ≤ length (grown t st n)
grown_more (Text s m) st n =
    elim (eqb (style_number s) (style_number st)) as (λ b. 1 ≤ length (if b then Text st (m + n) ∷ [] else Text s m ∷ Text st n ∷ []))
    [ true ↦ omega arith | false ↦ omega arith ]
grown_more (BlockStart b) st n = omega arith
grown_more (BlockEnd b) st n = omega arith

pub extend_more : (ts : List Token) (st : Style) (n : ℕ) → length ts ≤ length (extend ts st n)
unfolding extend
extend_more [] st n = omega arith
extend_more (t ∷ []) st n = omega (arith, grown_more t st n)
extend_more (t ∷ (u ∷ ts)) st n = omega (arith, extend_more (u ∷ ts) st n)

-- the last of the code's tokens, by its place
pub end_len_of : (ts : List Token) (k : ℕ) (t : Token) (st : Style) → length ts ≡ suc k → t ≡ get_or ts k t → len_in t st ≡ end_len ts st
end_len_of [] k t st l e = absurd (omega arith)
end_len_of (u ∷ []) zero t st l e = ap (λ v. len_in v st) e
end_len_of (u ∷ []) (suc k) t st l e = absurd (omega arith)
end_len_of (u ∷ (v ∷ ts)) zero t st l e = absurd (omega arith)
end_len_of (u ∷ (v ∷ ts)) (suc k) t st l e = end_len_of (v ∷ ts) k t st (omega arith) e

grown-some : (t : Token) (st : Style) (m n : ℕ) → Some m ≡ len_in t st → grown t st n ≡ Text st (m + n) ∷ []
grown-some (Text s k) st m n e = go (eqb (style_number s) (style_number st)) e
  where
    go : (b : Bool) → Some m ≡ (if b then Some k else None) → (if b then Text st (k + n) ∷ [] else Text s k ∷ Text st n ∷ []) ≡ Text st (m + n) ∷ []
    go true p = let h : m ≡ k = cc in cc
    go false p = cc
grown-some (BlockStart b) st m n e = cc
grown-some (BlockEnd b) st m n e = cc

grown-none : (t : Token) (st : Style) (n : ℕ) → None ≡ len_in t st → grown t st n ≡ t ∷ Text st n ∷ []
grown-none (Text s k) st n e = go (eqb (style_number s) (style_number st)) e
  where
    go : (b : Bool) → None ≡ (if b then Some k else None) → (if b then Text st (k + n) ∷ [] else Text s k ∷ Text st n ∷ []) ≡ Text s k ∷ Text st n ∷ []
    go true p = cc
    go false p = refl
grown-none (BlockStart b) st n e = refl
grown-none (BlockEnd b) st n e = refl

-- where the last token is a text in the style, it grows
pub extend-some : (ts : List Token) (k : ℕ) (st : Style) (m n : ℕ) → length ts ≡ suc k → Some m ≡ end_len ts st → extend ts st n ≡ set ts k (Text st (m + n))
unfolding extend
extend-some [] k st m n l e = absurd (omega arith)
extend-some (t ∷ []) zero st m n l e = grown-some t st m n e
extend-some (t ∷ []) (suc k) st m n l e = absurd (omega arith)
extend-some (t ∷ (u ∷ ts)) zero st m n l e = absurd (omega arith)
extend-some (t ∷ (u ∷ ts)) (suc k) st m n l e = ap (λ xs. t ∷ xs) (extend-some (u ∷ ts) k st m n (omega arith) e)

-- where it is not, a text comes behind it
pub extend-none : (ts : List Token) (st : Style) (n : ℕ) → None ≡ end_len ts st → extend ts st n ≡ ts ++ Text st n ∷ []
unfolding extend
extend-none [] st n e = refl
extend-none (t ∷ []) st n e = grown-none t st n e
extend-none (t ∷ (u ∷ ts)) st n e = ap (λ xs. t ∷ xs) (extend-none (u ∷ ts) st n e)

len_in-size : (t : Token) (st : Style) (m : ℕ) → Some m ≡ len_in t st → m ≡ sizes (t ∷ [])
len_in-size (Text s k) st m e = go (eqb (style_number s) (style_number st)) e
  where
    go : (b : Bool) → Some m ≡ (if b then Some k else None) → m ≡ k + 0
    go true p = let h : m ≡ k = cc in omega arith
    go false p = let z : ◌≡◌ {A = ℕ} 0 1 = cc in absurd (omega arith)
len_in-size (BlockStart b) st m e = let z : ◌≡◌ {A = ℕ} 0 1 = cc in absurd (omega arith)
len_in-size (BlockEnd b) st m e = let z : ◌≡◌ {A = ℕ} 0 1 = cc in absurd (omega arith)

-- the last token's length is within the sum, and there is a last token
pub end_len-some : (ts : List Token) (st : Style) (m : ℕ) → Some m ≡ end_len ts st → (m ≤ sizes ts) × (1 ≤ length ts)
end_len-some [] st m e = let z : ◌≡◌ {A = ℕ} 0 1 = cc in absurd (omega arith)
end_len-some (t ∷ []) st m e = let h = len_in-size t st m e in (omega arith, omega arith)
end_len-some (t ∷ (u ∷ ts)) st m e =
    let h = end_len-some (u ∷ ts) st m e in
    let k = sizes-append (t ∷ []) (u ∷ ts) in
    (omega arith, omega arith)

same_number : (st : Style) → eqb (style_number st) (style_number st) ≡ true
same_number S.Text = refl
same_number S.Emphasis = refl
same_number S.Literal = refl
same_number S.Metavar = refl
same_number S.Invalid = refl

grown_joins : (t : Token) (st : Style) (m n : ℕ) → extend (grown t st m) st n ≡ grown t st (m + n)
unfolding extend
grown_joins (Text s k) st m n = go (eqb (style_number s) (style_number st))
  where
    go : (b : Bool) → extend (if b then Text st (k + m) ∷ [] else Text s k ∷ Text st m ∷ []) st n ≡ (if b then Text st (k + (m + n)) ∷ [] else Text s k ∷ Text st (m + n) ∷ [])
    go true = simp (same_number st, add_assoc)
    go false = simp (same_number st)
grown_joins (BlockStart b) st m n = simp (same_number st)
grown_joins (BlockEnd b) st m n = simp (same_number st)

extend_front : (t : Token) (us : List Token) (st : Style) (n : ℕ) → 1 ≤ length us → extend (t ∷ us) st n ≡ t ∷ extend us st n
unfolding extend
extend_front t [] st n h = absurd (omega arith)
extend_front t (u ∷ us) st n h = refl

-- two texts of one style behind each other are one
pub extend_joins : (ts : List Token) (st : Style) (m n : ℕ) → extend (extend ts st m) st n ≡ extend ts st (m + n)
unfolding extend
extend_joins [] st m n = simp (same_number st)
extend_joins (t ∷ []) st m n = grown_joins t st m n
extend_joins (t ∷ (u ∷ ts)) st m n =
    extend_front t (extend (u ∷ ts) st m) st n (omega (arith, extend_more (u ∷ ts) st m))
    ∙ ap (λ xs. t ∷ xs) (extend_joins (u ∷ ts) st m n)
