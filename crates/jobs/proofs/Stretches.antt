-- The records of a file, one by one.
use Rattle.std.proofs.Common.{◌≡◌, ℕ, suc, ◌+◌, ◌-◌, ◌/◌, ◌<◌, min, List, [], ◌∷◌, ◌++◌, length, take, drop, sym, ap, ◌∙◌, arith, length-drop}
use Rattle.std.proofs.lemmas.List.{take_min, drop_min, take_at, drop_at}
use Rattle.rules.specs.Lists.{stretches}
use Rattle.jobs.specs.Jobs.{records_in}

count_more : (n : ℕ) → 0 < n → (n + 127) / 128 ≡ suc (((n - 128) + 127) / 128)
count_more n h = omega arith

-- no bytes are no record
pub records-none : (bs : List ℕ) → length bs ≡ 0 → records_in bs ≡ []
unfolding records_in
records-none bs h = ap (λ n. stretches 128 ((n + 127) / 128) bs) h

-- the first record, and the others
pub records_more : (bs : List ℕ) → 0 < length bs → records_in bs ≡ take 128 bs ∷ records_in (drop 128 bs)
unfolding records_in
records_more bs h =
    ap (λ n. stretches 128 n bs) (count_more (length bs) h)
    ∙ ap (λ n. take 128 bs ∷ stretches 128 ((n + 127) / 128) (drop 128 bs)) (sym (length-drop 128 bs))

-- the records of a file that is not empty, cut behind its first
pub records-cut : (bs front back : List ℕ) (size : ℕ) → size ≡ 128 → bs ≡ front ++ back → length front ≡ min size (length bs) → 0 < length bs
    → records_in bs ≡ front ∷ records_in back
records-cut bs front back size s cut long some =
    let many : length front ≡ min 128 (length bs) = long ∙ ap (λ n. min n (length bs)) s in
    let one : take 128 bs ≡ front = sym (take_min 128 bs) ∙ (ap (take (min 128 (length bs))) cut ∙ take_at front back (min 128 (length bs)) many) in
    let others : drop 128 bs ≡ back = sym (drop_min 128 bs) ∙ (ap (drop (min 128 (length bs))) cut ∙ drop_at front back (min 128 (length bs)) many) in
    records_more bs some ∙ (ap (λ l. l ∷ records_in (drop 128 bs)) one ∙ ap (λ l. front ∷ records_in l) others)
