-- Cutting a text into notes by their places, one mark at a time. Assumes nothing.
use Rattle.std.proofs.lemmas.Option.{none-some, same_Some}
use Rattle.std.proofs.Common.{◌≡◌, ℕ, ◌+◌, ◌-◌, ◌*◌, ◌/◌, ◌<◌, ◌≤◌, Bool, true, if◌then◌else◌, ◌&&◌, eqb, leb, List, [], ◌∷◌, ◌++◌, length, get_or, take, drop, Some, None, Option, sym, refl, ap, ◌∙◌, subst, arith}
use Rattle.std.proofs.lemmas.Bool.{and_parts, and_from, eqb-true, leb-true, le-leb, false≢true}
use Rattle.std.proofs.lemmas.List.{append-nil, append_assoc, map_push, length_push, length-drop, drop-append-le, take-append-le, drop_all, drop-drop, take_rest, at_drop_more, at_drop_all}
use Rattle.std.proofs.lemmas.List.Folds.{list_all-append}
use Rattle.std.specs.List.{list_all}
use Rattle.std.specs.Simd.{first_chunks}
use Rattle.terms.specs.Token.{sizes, size as token_size}
use Rattle.terms.specs.declared.text.Token.TheVariants.{Text, BlockStart, BlockEnd}
use Rattle.terms.specs.declared.text.Token.{Token}
use Rattle.terms.specs.declared.text.Mark.{Mark}
use Rattle.terms.specs.declared.text.Mark.TheVariants as M
use Rattle.rules.specs.Notes.{Note, tokens_of, text_byte, nested, ended, marks_of, before, lawful, lawful_marks, is_store, cut, opened, notes_of}
use Rattle.rules.proofs.Wholes.{sizes-append}
use Rattle.buffer.specs.declared.store.Span.{Span}
use Rattle.buffer.specs.declared.store.Place.{Place}
use Rattle.buffer.specs.Marks.{mark_in, marks_in}
use Rattle.buffer.specs.Places.{part, ends, lies, note_from, notes_from}
use Rattle.buffer.proofs.Fours.{fours, marks_in-fours}

-- the notes so far before those that the marks which are left cut off, where there are marks
abbrev pub cut_from : List Note → List Token → List ℕ → Option (List Mark) → Option (List Note)
cut_from ns ts text None = None
cut_from ns ts text (Some ms) = Some (ns ++ cut ts text ms)

-- how many bytes the tokens so far and those that are left stand for
abbrev pub sum_from : ℕ → Option (List Mark) → ℕ
sum_from n None = 0
sum_from n (Some ms) = n + sizes (tokens_of ms)

-- the tokens and places that i marks gave, where the next note begins among the tokens and in the text and ends so far, and the marks that are left: these give all notes
pub record Cutting (text : List ℕ) (ts : List Token) (ps : List Place) (first start end i : ℕ) (left : Option (List Mark)) (all : List Note) : Type 0 where
  pub notes : cut_from (notes_from ts text ps) (drop first ts) (drop start text) left ≡ Some all
  pub within : list_all (lies (length ts) start) ps ≡ true
  pub few : length ts ≤ i
  pub begun : first ≤ length ts
  pub sized : end ≡ start + sizes (drop first ts)
  pub fits : sum_from end left ≤ length text
  pub small : length text ≤ 16384

-- what a lawful store keeps of its sizes
record Kept (m t : List ℕ) (ms : List Mark) : Type 0 where
  few : length m ≤ 4 * 2048
  small : length t ≤ 16384
  sum : eqb (sizes (tokens_of ms)) (length t) ≡ true

kept : (m t : List ℕ) (ms : List Mark) → lawful m t ms ≡ true → Kept m t ms
kept m t ms h =
    let sums = and_parts (leb (length m) (4 * 2048) && leb (length t) 16384 && list_all text_byte t && nested [] ms && ended true ms) (eqb (sizes (tokens_of ms)) (length t)) h in
    let ends = and_parts (leb (length m) (4 * 2048) && leb (length t) 16384 && list_all text_byte t && nested [] ms) (ended true ms) sums.0 in
    let nest = and_parts (leb (length m) (4 * 2048) && leb (length t) 16384 && list_all text_byte t) (nested [] ms) ends.0 in
    let texts = and_parts (leb (length m) (4 * 2048) && leb (length t) 16384) (list_all text_byte t) nest.0 in
    let limits = and_parts (leb (length m) (4 * 2048)) (leb (length t) 16384) texts.0 in
    record {
      few = leb-true (length m) (4 * 2048) limits.0;
      small = leb-true (length t) 16384 limits.1;
      sum = sums.1;
    }

few_from : (m t : List ℕ) (o : Option (List Mark)) → lawful_marks m t o ≡ true → length m ≤ 4 * 2048
few_from m t None h = absurd (false≢true h)
few_from m t (Some ms) h = (kept m t ms h).few

-- a lawful store has no more marks than it may
pub few_marks : (m t : List ℕ) → is_store m t ≡ true → length m / 4 ≤ 2048
few_marks m t h = let k : length m ≤ 4 * 2048 = few_from m t (marks_of m) h in omega arith

begins_from : (m t : List ℕ) (o : Option (List Mark)) → marks_of m ≡ o → lawful_marks m t o ≡ true → Cutting t [] [] 0 0 0 0 o (opened m t o)
begins_from m t None e h = absurd (false≢true h)
begins_from m t (Some ms) e h = record {
  notes = ap (λ (b : Bool). Some (if b then cut [] t ms else [])) (sym h);
  within = refl;
  few = omega arith;
  begun = omega arith;
  sized = refl;
  fits = omega (arith, eqb-true (sizes (tokens_of ms)) (length t) (kept m t ms h).sum);
  small = (kept m t ms h).small;
}

-- before the first mark
pub begins : (m t : List ℕ) → is_store m t ≡ true → Cutting t [] [] 0 0 0 0 (marks_in (first_chunks 4 (length m / 4) m)) (notes_of m t)
unfolding notes_of
begins m t h =
    let read : marks_in (first_chunks 4 (length m / 4) m) ≡ marks_of m = marks_in-fours m (fours m t h) in
    subst (λ (o : Option (List Mark)). Cutting t [] [] 0 0 0 0 o (opened m t (marks_of m))) (sym read) (begins_from m t (marks_of m) refl h)

-- one token alone
pub sizes_one : (t : Token) → sizes (t ∷ []) ≡ token_size t
sizes_one (Text s n) = omega arith
sizes_one (BlockStart b) = refl
sizes_one (BlockEnd b) = refl

lies_more : (n k m l : ℕ) (p : Place) → n ≤ m → k ≤ l → lies n k p ≡ true → lies m l p ≡ true
lies_more n k m l p h g e =
    let q = and_parts (ends n p.tokens) (ends k p.text) e in
    let a = leb-true (p.tokens.first + p.tokens.count) n q.0 in
    let b = leb-true (p.text.first + p.text.count) k q.1 in
    and_from (ends m p.tokens) (ends l p.text) (le-leb (p.tokens.first + p.tokens.count) m (omega arith)) (le-leb (p.text.first + p.text.count) l (omega arith))

-- places within so many lie within more
all_lie_more : (n k m l : ℕ) (ps : List Place) → n ≤ m → k ≤ l → list_all (lies n k) ps ≡ true → list_all (lies m l) ps ≡ true
all_lie_more n k m l [] h g e = refl
all_lie_more n k m l (p ∷ ps) h g e =
    let q = and_parts (lies n k p) (list_all (lies n k) ps) e in
    and_from (lies m l p) (list_all (lies m l) ps) (lies_more n k m l p h g q.0) (all_lie_more n k m l ps h g q.1)

-- a part is the same in a longer list
part_longer : {X : Type 0} (s : Span) (xs ys : List X) → s.first + s.count ≤ length xs → part s (xs ++ ys) ≡ part s xs
part_longer s xs ys h =
    let d : length (drop s.first xs) ≡ length xs - s.first = length-drop s.first xs in
    ap (take s.count) (drop-append-le s.first xs ys (omega arith))
    ∙ take-append-le s.count (drop s.first xs) ys (omega arith)

-- and so are the notes at places within it
notes_longer : (ts us : List Token) (text : List ℕ) (k : ℕ) (ps : List Place) → list_all (lies (length ts) k) ps ≡ true → notes_from (ts ++ us) text ps ≡ notes_from ts text ps
notes_longer ts us text k [] e = refl
notes_longer ts us text k (p ∷ ps) e =
    let q = and_parts (lies (length ts) k p) (list_all (lies (length ts) k) ps) e in
    let r = and_parts (ends (length ts) p.tokens) (ends k p.text) q.0 in
    let h = leb-true (p.tokens.first + p.tokens.count) (length ts) r.0 in
    ap (λ (vs : List Token). record { tokens = vs; bytes = part p.text text } ∷ notes_from (ts ++ us) text ps) (part_longer p.tokens ts us h)
    ∙ ap (λ (ns : List Note). note_from ts text p ∷ ns) (notes_longer ts us text k ps q.1)

-- the note at a place that begins and ends as said
note_is : (text : List ℕ) (ts : List Token) (first start size : ℕ) (p : Place) → p.tokens.first ≡ first → p.tokens.count ≡ length ts - first → p.text.first ≡ start → p.text.count ≡ size
    → note_from ts text p ≡ record { tokens = drop first ts; bytes = take size (drop start text) }
note_is text ts first start size p a b x y =
    let tokens : part p.tokens ts ≡ drop first ts =
    ap (λ (n : ℕ). take n (drop p.tokens.first ts)) b ∙ ap (λ (n : ℕ). take (length ts - first) (drop n ts)) a ∙ take_rest ts first in
    let bytes : part p.text text ≡ take size (drop start text) =
    ap (λ (n : ℕ). take n (drop p.text.first text)) y ∙ ap (λ (n : ℕ). take size (drop n text)) x in
    ap (λ (us : List Token). record { tokens = us; bytes = part p.text text }) tokens
    ∙ ap (λ (bs : List ℕ). record { tokens = drop first ts; bytes = bs }) bytes

module _ {text : List ℕ} {ts : List Token} {ps : List Place} {first start end i : ℕ} {all : List Note} where
  -- the marks that are left begin with the one at k
  pub next : (bs : List (List ℕ)) (k : ℕ) (m : Mark) → Cutting text ts ps first start end i (marks_in (drop k bs)) all → k < length bs → Some m ≡ mark_in (get_or bs k [])
      → Cutting text ts ps first start end i (before (Some m) (marks_in (drop (k + 1) bs))) all
  next bs k m c h read =
      let e : marks_in (drop k bs) ≡ before (Some m) (marks_in (drop (k + 1) bs)) =
      at_drop_more marks_in bs k [] h ∙ sym (ap (λ (o : Option Mark). before o (marks_in (drop (k + 1) bs))) read) in
      subst (λ (o : Option (List Mark)). Cutting text ts ps first start end i o all) e c

  pub cutting_token : (t : Token) (o : Option (List Mark)) → Cutting text ts ps first start end i (before (Some (M.Token t)) o) all
      → Cutting text (ts ++ t ∷ []) ps first start (end + sizes (t ∷ [])) (i + 1) o all
  cutting_token t None c = absurd (none-some all c.notes)
  cutting_token t (Some ms) c =
      let grown : drop first (ts ++ t ∷ []) ≡ drop first ts ++ t ∷ [] = drop-append-le first ts (t ∷ []) c.begun in
      let long : length (ts ++ t ∷ []) ≡ length ts + 1 = length_push ts t in
      record {
        notes = ap (λ (ns : List Note). Some (ns ++ cut (drop first (ts ++ t ∷ [])) (drop start text) ms)) (notes_longer ts (t ∷ []) text start ps c.within)
            ∙ ap (λ (us : List Token). Some (notes_from ts text ps ++ cut us (drop start text) ms)) grown ∙ c.notes;
        within = all_lie_more (length ts) start (length (ts ++ t ∷ [])) start ps (omega arith) (omega arith) c.within;
        few = omega (arith, c.few);
        begun = omega (arith, c.begun);
        sized = omega (arith, c.sized, ap sizes grown, sizes-append (drop first ts) (t ∷ []));
        fits = omega (arith, c.fits, sizes-append (t ∷ []) (tokens_of ms));
        small = c.small;
      }

  module _ (p : Place) (a : p.tokens.first ≡ first) (b : p.tokens.count ≡ length ts - first) (x : p.text.first ≡ start) (y : p.text.count ≡ end - start) where
    stop_notes : (ms : List Mark) → Cutting text ts ps first start end i (Some (M.Stop ∷ ms)) all
        → Some (notes_from ts text (ps ++ p ∷ []) ++ cut (drop (length ts) ts) (drop end text) ms) ≡ Some all
    stop_notes ms c =
        let size = sizes (drop first ts) in
        let none_left : drop (length ts) ts ≡ [] = drop_all (length ts) ts (omega arith) in
        let text-left : drop end text ≡ drop size (drop start text) = ap (λ (n : ℕ). drop n text) c.sized ∙ sym (drop-drop size start text) in
        ap (λ (us : List Token). Some (notes_from ts text (ps ++ p ∷ []) ++ cut us (drop end text) ms)) none_left
        ∙ ap (λ (bs : List ℕ). Some (notes_from ts text (ps ++ p ∷ []) ++ cut [] bs ms)) text-left
        ∙ ap (λ (ns : List Note). Some (ns ++ cut [] (drop size (drop start text)) ms)) (map_push (note_from ts text) ps p)
        ∙ ap Some (append_assoc (notes_from ts text ps) (note_from ts text p ∷ []) (cut [] (drop size (drop start text)) ms))
        ∙ ap (λ (n : Note). Some (notes_from ts text ps ++ n ∷ cut [] (drop size (drop start text)) ms)) (note_is text ts first start size p a b x (omega (arith, c.sized)))
        ∙ c.notes

    pub cutting_stop : (o : Option (List Mark)) → Cutting text ts ps first start end i (before (Some M.Stop) o) all
        → Cutting text ts (ps ++ p ∷ []) (length ts) end end (i + 1) o all
    cutting_stop None c = absurd (none-some all c.notes)
    cutting_stop (Some ms) c =
        let none_left : drop (length ts) ts ≡ [] = drop_all (length ts) ts (omega arith) in
        let far : start ≤ end = omega (arith, c.sized) in
        let last : lies (length ts) end p ≡ true =
        and_from (ends (length ts) p.tokens) (ends end p.text) (le-leb (p.tokens.first + p.tokens.count) (length ts) (omega (arith, c.begun))) (le-leb (p.text.first + p.text.count) end (omega arith)) in
        record {
          notes = stop_notes ms c;
          within = list_all-append (lies (length ts) end) ps (p ∷ [])
              ∙ and_from _ _ (all_lie_more (length ts) start (length ts) end ps (omega arith) far c.within) (and_from _ _ last refl);
          few = omega (arith, c.few);
          begun = omega arith;
          sized = omega (arith, ap sizes none_left);
          fits = omega (arith, c.fits);
          small = c.small;
        }

  -- behind the last mark, these are all notes
  pub cutting_all : (bs : List (List ℕ)) (k : ℕ) → Cutting text ts ps first start end i (marks_in (drop k bs)) all → length bs ≤ k → notes_from ts text ps ≡ all
  cutting_all bs k c h =
      sym (append-nil (notes_from ts text ps))
      ∙ same_Some _ all (sym (at_drop_all (λ xs. cut_from (notes_from ts text ps) (drop first ts) (drop start text) (marks_in xs)) bs k h) ∙ c.notes)

  -- and the places lie within the text
  pub within_all : (bs : List (List ℕ)) (k : ℕ) → Cutting text ts ps first start end i (marks_in (drop k bs)) all → length bs ≤ k → list_all (lies (length ts) (length text)) ps ≡ true
  within_all bs k c h =
      let f : sum_from end (marks_in (drop k bs)) ≡ end + 0 = at_drop_all (λ xs. sum_from end (marks_in xs)) bs k h in
      all_lie_more (length ts) start (length ts) (length text) ps (omega arith) (omega (arith, c.sized, c.fits)) c.within
