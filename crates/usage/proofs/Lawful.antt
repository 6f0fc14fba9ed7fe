-- That a line which is written from a root of a book loses nothing.
use Rattle.std.proofs.Common.{◌≡◌, ℕ, sym, ap, ◌∙◌}
use Rattle.rules.specs.Plain.{Plain}
use Rattle.rules.specs.Sound.{Sound}
use Rattle.rules.specs.Tree.{tree_at}
use Rattle.rules.specs.Reading.{reading_of, said}
use Rattle.rules.specs.Content.{Content, line}
use Rattle.rules.proofs.Roll.{roll_law}
use Rattle.rules.proofs.Flat.{line_determines}
use Rattle.rules.proofs.Lawful.{one_reading, sound_fit}
use Rattle.usage.specs.Lossless.{Lossless}

pub lossless : (p : Plain) (root : ℕ) (c : Content) → Sound p → c ≡ line (reading_of p root) → Lossless p root c
lossless p root c s e = record {
  its_reading = e;
  its_roll = roll_law (tree_at p root);
  read_back = λ r f w. ap said (line_determines r (reading_of p root) f (sound_fit p s root) (sym w ∙ e)) ∙ roll_law (tree_at p root);
  tells = λ q other t w. one_reading p q s t root other (sym e ∙ w);
  shows = λ q other h. e ∙ ap line h;
}
