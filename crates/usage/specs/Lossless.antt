-- What a usage line keeps of the tree that it was written from.
use Rattle.std.specs.Prelude.{◌≡◌, ℕ, false}
use Rattle.rules.specs.Plain.{Plain}
use Rattle.rules.specs.Sound.{Sound}
use Rattle.rules.specs.Tree.{tree_at}
use Rattle.rules.specs.Reading.{Reading, reading_of, said, roll}
use Rattle.rules.specs.Laws.{Fit}
use Rattle.rules.specs.Content.{Content, line}

-- a written line of a root of a book: it is the root's reading written out; that reading says the root's roll, and so does
-- any fit reading with that line; and the line of any root of any sound book is the same exactly where its reading is the same
pub record Lossless (p : Plain) (root : ℕ) (written : Content) : Type 0 where
  pub its_reading : written ≡ line (reading_of p root)
  pub its_roll : said (reading_of p root) ≡ roll (tree_at p root)
  pub read_back : (r : Reading) → Fit false r → written ≡ line r → said r ≡ roll (tree_at p root)
  pub tells : (q : Plain) (other : ℕ) → Sound q → written ≡ line (reading_of q other) → reading_of p root ≡ reading_of q other
  pub shows : (q : Plain) (other : ℕ) → reading_of p root ≡ reading_of q other → written ≡ line (reading_of q other)
